use Rattle.std.proofs.Common.{◌+◌, ◌<◌, ◌≤◌, length, ◌∙◌, arith}
use Rattle.std.proofs.lemmas.List.{length-take-le}
use Rattle.ttlv_run.specs.{Decoding.bytes_in, Inputs.width}
use Rattle.ttlv_run.proofs.Decoders.{filled, open_made, open_whole, open_padded, open_spoilt}
use Rattle.ttlv_run.proofs.decoder.Decoder.put.Goals as goal

pub returns-in_default-clause-made : goal.returns-in_default-clause-made
returns-in_default-clause-made c = λ digits bytes o.
    let d = c.args.self.now in
    let is = filled d.digits d.count c.width-width.result c.args.b (omega (arith, d.fits, c.if-self-width.false, c.width-width.ensures.is))
    (omega (arith, c.width-width.ensures.most)) in
    open_spoilt o c.args.b is.0 (is.1 ∙ c.width-width.ensures.is) c.of.ensures.digits c.in_default.ensures.none

pub returns-then-group-width-clause-made : goal.returns-then-group-width-clause-made
returns-then-group-width-clause-made c = λ digits bytes o.
    let d = c.args.self.now in
    let is = filled d.digits d.count c.width-width.result c.args.b (omega (arith, d.fits, c.if-self-width.false, c.width-width.ensures.is))
    (omega (arith, c.width-width.ensures.most)) in
    let long = is.1 ∙ c.width-width.ensures.is in
    let few : length (bytes_in c.in-Some.group) + 1 < width d.form =
    omega (arith, c.if-group-width.true, c.width-width.ensures.is, length-take-le c.in-Some.group.count c.in-Some.group.bytes (omega arith)) in (
      open_padded o c.args.b is.0 long c.of.ensures.digits c.in-Some.ensures.some few,
      open_made o c.args.b is.0 long c.of.ensures.digits c.in-Some.ensures.some,
    )

pub returns-else-group-width-clause-made : goal.returns-else-group-width-clause-made
returns-else-group-width-clause-made c = λ digits bytes o.
    let d = c.args.self.now in
    let is = filled d.digits d.count c.width-width.result c.args.b (omega (arith, d.fits, c.if-self-width.false, c.width-width.ensures.is))
    (omega (arith, c.width-width.ensures.most)) in
    let long = is.1 ∙ c.width-width.ensures.is in
    let least : width d.form ≤ length (bytes_in c.in-Some.group) + 1 =
    omega (arith, c.if-group-width.false, c.width-width.ensures.is, length-take-le c.in-Some.group.count c.in-Some.group.bytes (omega arith)) in (
      rw c.requires (open_whole o c.args.b is.0 long c.of.ensures.digits c.in-Some.ensures.some c.in-Some.ensures.bytes least),
      open_made o c.args.b is.0 long c.of.ensures.digits c.in-Some.ensures.some,
    )
