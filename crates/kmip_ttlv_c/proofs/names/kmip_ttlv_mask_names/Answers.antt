use Rattle.std.proofs.Common.{◌≡◌, List, ℕ, Option, Some, None, Bor, ap, refl, sym, subst, ◌∙◌}
use Rattle.std.specs.Prelude.{option_map, string_bytes}
use Rattle.kmip_ttlv_names.specs.{NameTables.names_of, ValueNames.name_of_value, declared.masks.TheConstants.STANDARD_MASKS}
use Rattle.kmip_ttlv_c.specs.{Buffers.Offers, Buffers.offers, Buffers.refuses, NameTexts.name_by, NameTexts.mask_text, NameTexts.mask_names, NameTexts.no_name}
use Rattle.kmip_ttlv_c.proofs.names.kmip_ttlv_mask_names.Goals as goal

pub returns-in_default-name_by : goal.returns-in_default-name_by
unfolding mask_names
returns-in_default-name_by c =
    let none : name_by (names_of STANDARD_MASKS.now) c.args.tag ≡ None =
    sym (c.name_by.ensures ∙ ap (λ (names : ℕ → Option (List ℕ)). name_by names c.args.tag) c.in-Ok.ensures.names)
    ∙ ap (λ (o : Option (Bor (List ℕ))). option_map (λ s. s.now) o) c.in_default-name_by.is in
    refuses (no_name (ap (λ (o : Option (List ℕ)). option_map (λ list. mask_text (λ bit. name_of_value bit list) c.args.mask) o) none) refl) refl refl

pub returns : goal.returns
unfolding mask_names
returns c =
    let list : name_by (names_of STANDARD_MASKS.now) c.args.tag ≡ Some c.in-Some.list.now =
    sym (c.name_by.ensures ∙ ap (λ (names : ℕ → Option (List ℕ)). name_by names c.args.tag) c.in-Ok.ensures.names)
    ∙ ap (λ (o : Option (Bor (List ℕ))). option_map (λ s. s.now) o) c.in-Some.is in
    offers (string_bytes c.in-Ok-names_of_bits.text)
    (ap (λ (o : Option (List ℕ)). option_map (λ list. mask_text (λ bit. name_of_value bit list) c.args.mask) o) list
    ∙ ap (λ (t : List ℕ). Some t) (sym c.in-Ok-names_of_bits.ensures))
    (subst (λ (t : List ℕ). Offers t c.offer.result c.offer.new.length c.args.out.now c.offer.new.out) c.as_bytes.ensures.value c.offer.ensures)
