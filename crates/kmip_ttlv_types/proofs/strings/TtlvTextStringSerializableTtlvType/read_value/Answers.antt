use Rattle.std.proofs.Common.{◌≡◌, ℕ, List, Bool, true, false, ◌∙◌, sym, ap, subst, refl, length}
use Rattle.std.specs.{Prelude.string_bytes, Prelude.vec_items, Str.is_utf8, Io.KnownBytes.Consumes}
use Rattle.std.proofs.lemmas.Str.{IsUtf8-from_is_utf8, is_utf8-from_IsUtf8, IsUtf8-string_bytes}
use Rattle.kmip_ttlv_types.proofs.strings.TtlvTextStringSerializableTtlvType.read_value.Goals as goal

not_true : (b : Bool) → (b ≡ true → ⊥) → b ≡ false
not_true true h = absurd (h refl)
not_true false h = refl

pub returns-in-Ok : goal.returns-in-Ok
returns-in-Ok g c =
    let taken = c.in_ok-bytes.ensures in
    let same : string_bytes c.in-Ok.text ≡ vec_items c.in_ok-bytes.bytes = ap vec_items c.in-Ok.ensures.ok in (
      subst (Consumes (g.S.Source.left c.args.src.now) (g.S.Source.left c.take_bytes.new.source)) (sym same) taken.0,
      ap (λ (l : List ℕ). length l) same ∙ taken.1,
      is_utf8-from_IsUtf8 _ (IsUtf8-string_bytes c.in-Ok.text),
    )

pub returns : goal.returns
returns g c =
    let taken = c.in_ok-bytes.ensures in (
      refl,
      tt,
      (
        vec_items c.in_ok-bytes.bytes,
        taken.0,
        taken.1,
        not_true (is_utf8 (vec_items c.in_ok-bytes.bytes)) (λ is. let e : false ≡ true = c.in-Err.ensures.succeeds (IsUtf8-from_is_utf8 _ is) in cc),
      ),
    )
