use Rattle.std.proofs.Common.{◌≡◌, ◌∙◌, sym, ap, refl, true, false, Ok, Err, Result, List, ℕ, MatchResult}
use Rattle.std.specs.{Result.is_ok, Str.IsUtf8, Str.is_utf8}
use Rattle.std.proofs.lemmas.Str.{IsUtf8-from_is_utf8, is_utf8-from_IsUtf8}
use Rattle.kmip_ttlv_types.specs.{declared.typ.TtlvType.TtlvType, Leaves.is_valid}
use Rattle.kmip_ttlv_types.proofs.places.is_valid.Goals as goal

not_utf8 : (c : List ℕ) → (IsUtf8 c → ⊥) → is_utf8 c ≡ false
not_utf8 c bad = elim (is_utf8 c) as (λ b. is_utf8 c ≡ b → b ≡ false) [ true ↦ λ e. absurd (bad (IsUtf8-from_is_utf8 c e)) | false ↦ λ e. refl ] refl

tells : {A E : Type 0} (r : Result A E) (content : List ℕ) (P : A → Type 0) (Q : E → Type 0)
    → MatchResult r (λ s. P s × IsUtf8 content) (λ e. (IsUtf8 content → ⊥) × Q e) → is_ok r ≡ is_utf8 content
tells (Ok s) content P Q h = sym (is_utf8-from_IsUtf8 content h.1)
tells (Err e) content P Q h = sym (not_utf8 content h.0)

pub returns-in-TextString : goal.returns-in-TextString
returns-in-TextString c =
    c.is_ok.ensures.value ∙ tells c.from_utf8.result c.args.content.now _ _ c.from_utf8.ensures.cases ∙ ap (λ (t : TtlvType). is_valid t c.args.content.now)
    (sym c.in-TextString.is)
