use Rattle.std.proofs.Common.{ℕ, List, ◌++◌, ◌∙◌, length, ap, subst, sym, Err, Global}
use Rattle.std.specs.Int.{w32, to_be_bytes}
use Rattle.std.proofs.lemmas.Result.{err_from_is_err_and}
use Rattle.kmip_ttlv_types.specs.{Headers.Writes, Primitives.sign_extended, Primitives.length_and_content}
use Rattle.kmip_ttlv_types.proofs.{Padding.signs_before, LeafWriting.Writes-first, LeafWriting.Writes-second}
use Rattle.kmip_ttlv_types.proofs.strings.write_extended.Goals as goal

pub returns-in_err-write : goal.returns-in_err-write
unfolding length_and_content
returns-in_err-write g c =
    let content : List ℕ = sign_extended c.args.bytes.now in
    let exit = err_from_is_err_and c.from_residual.result c.from_residual.ensures.1 in
    let h = Writes-first (Unit {0}) (Unit {0}) {A = Global} (to_be_bytes w32 c.new.result) content (g.S.Sink.emitted c.args.dst.now)
    (g.S.Sink.emitted c.write.new.dst) (g.S.Sink.room c.args.dst.now) (g.S.Sink.room c.write.new.dst) c.in_err-write.field-0.0 c.in_err-write.ensures in
    let named = subst (λ n. Writes {T = Unit {0}} (to_be_bytes w32 n ++ content) (g.S.Sink.emitted c.args.dst.now) (g.S.Sink.emitted c.write.new.dst)
    (g.S.Sink.room c.args.dst.now) (g.S.Sink.room c.write.new.dst) (Err c.in_err-write.field-0.0)) (c.new.ensures ∙ c.requires) h in
    subst (Writes (to_be_bytes w32 (length content) ++ content) (g.S.Sink.emitted c.args.dst.now) (g.S.Sink.emitted c.write.new.dst)
    (g.S.Sink.room c.args.dst.now) (g.S.Sink.room c.write.new.dst)) (sym (exit.1 ∙ ap Err exit.2)) named

pub returns : goal.returns
unfolding length_and_content
returns g c =
    let content : List ℕ = sign_extended c.args.bytes.now in
    let first = c.in_ok-write.ensures in
    let signs = signs_before c.args.bytes.now c.sign_count.result c.sign_of-signs.result c.sign_count.ensures.count c.sign_count.ensures.small
    c.sign_of-signs.ensures in
    let second = subst (λ (l : List ℕ). Writes l (g.S.Sink.emitted c.write.new.dst) (g.S.Sink.emitted c.send_both.new.dst) (g.S.Sink.room c.write.new.dst)
    (g.S.Sink.room c.send_both.new.dst) c.send_both.result) signs c.send_both.ensures in
    let h = Writes-second (to_be_bytes w32 c.new.result) _ _ _ _ first.0 first.1 content (g.S.Sink.emitted c.send_both.new.dst)
    (g.S.Sink.room c.send_both.new.dst) c.send_both.result second in
    subst (λ n. Writes (to_be_bytes w32 n ++ content) (g.S.Sink.emitted c.args.dst.now) (g.S.Sink.emitted c.send_both.new.dst) (g.S.Sink.room c.args.dst.now)
    (g.S.Sink.room c.send_both.new.dst) c.send_both.result) (c.new.ensures ∙ c.requires) h
