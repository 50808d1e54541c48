use Rattle.std.proofs.Common.{[], List, ℕ, Option, subst, arith}
use Rattle.std.specs.Prelude.{string_bytes}
use Rattle.kmip_ttlv_util.specs.TagNames.{name_in}
use Rattle.kmip_ttlv_c.specs.Calls.{IsReadBackAs}
use Rattle.kmip_ttlv_c.proofs.Redacted.{shows_redacted}
use Rattle.kmip_ttlv_c.proofs.calls.redacted_lines.Goals as goal

pub returns-clause-ok : goal.returns-clause-ok
returns-clause-ok g c =
    let text = string_bytes c.in_ok-read_back_named.field-0 in
    let read = c.in_ok-read_back_named.ensures in
    let diagnostic = string_bytes c.in_ok-diagnostic.diagnostic in
    shows_redacted c.args.bytes.now diagnostic text (λ i. omega (arith, c.type_inv.bytes i)) c.in_ok-diagnostic.ensures.ok
    (subst (λ (names : ℕ → Option (List ℕ)). IsReadBackAs names [] diagnostic text) c.in-Ok.ensures.names
    (subst (λ (d : List ℕ). IsReadBackAs (name_in c.in-Ok.names) [] d text) c.as_str.ensures.value record {
      is = read.undiag;
      longest = read.longest;
      redacted = read.redacted;
    }))
