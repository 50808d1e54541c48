use Rattle.std.proofs.Common.{List, ℕ, Option, subst}
use Rattle.std.specs.Prelude.{string_bytes}
use Rattle.kmip_ttlv_util.specs.TagNames.{name_in}
use Rattle.kmip_ttlv_c.specs.{Buffers.Offers, Buffers.offers, Calls.IsReadBackAs}
use Rattle.kmip_ttlv_c.proofs.calls.kmip_ttlv_from_diag.Goals as goal

pub returns : goal.returns
returns c =
    let text = string_bytes c.in-Ok-read_back_named.text in
    let read = c.in-Ok-read_back_named.ensures in
    offers text
    record {
      table_is = c.in-Ok-names_in.ensures.good;
      no_line = c.in-Ok-names_in.ensures.line;
      prefix_is = c.in-Ok-from_utf8.ensures.cases.1;
      diagnostic_is = c.in-Ok.ensures.cases.1;
      lines = subst (λ (names : ℕ → Option (List ℕ)). IsReadBackAs names c.args.prefix.now c.args.diagnostic.now text) c.in-Ok-names_in.ensures.names
          (subst (λ (p : List ℕ). IsReadBackAs (name_in c.in-Ok-names_in.names) p c.args.diagnostic.now text) c.in-Ok-from_utf8.ensures.cases.0
          (subst (λ (d : List ℕ). IsReadBackAs (name_in c.in-Ok-names_in.names) c.in-Ok-from_utf8.prefix.now d text) c.in-Ok.ensures.cases.0 record {
            is = read.undiag;
            longest = read.longest;
            redacted = read.redacted;
          }));
    }
    (subst (λ (t : List ℕ). Offers t c.offer.result c.offer.new.length c.args.out.now c.offer.new.out) c.as_bytes.ensures.value c.offer.ensures)
