use Rattle.std.proofs.Common.{◌≡◌, ◌+◌, ◌*◌, ◌%◌, ◌^◌, ◌<◌, [], ◌∷◌, ℕ, List, Option, Some, None, ap, sym, ◌∙◌, arith, IfSome}
use Rattle.kmip_ttlv_types.specs.{Digits.six_digits, Names.tag_of}
use Rattle.kmip_ttlv_util.proofs.{PrefixNumbers.joined_fits, PrefixNumbers.joined_digits, ReadBack.six_tag}
use Rattle.kmip_ttlv_util.proofs.undiag.six_digits_tag.Goals as goal

pub overflow_add-prefix-2 : goal.overflow_add-prefix-2
overflow_add-prefix-2 c =
    let p = c.args.prefix.now in
    let is = c.requires.prefix (omega arith) in
    let fits : p.number * 2 ^ (4 * c.args.count) + c.args.number < 2 ^ 24 = joined_fits p.text.now p.count p.number c.args.count c.args.number
    (omega arith) is.0 is.1 (c.requires.small (omega arith)) in
    omega (arith, fits)

-- the tag with this number, if it is a tag
printed_text : (o : Option ℕ) (n t : ℕ) (name digits : List ℕ) → n ≡ t → digits ≡ name → tag_of name ≡ Some t → IfSome o (λ u. u ≡ n)
    → IfSome o (λ u. tag_of digits ≡ Some u)
printed_text (Some u) n t name digits e same is h = ap tag_of same ∙ is ∙ ap Some (sym (h ∙ e))
printed_text None n t name digits e same is h = tt

pub returns-clause-tag : goal.returns-clause-tag
returns-clause-tag c =
    let p = c.args.prefix.now in
    let is = c.requires.prefix (omega arith) in
    let small = c.requires.small (omega arith) in
    let t = p.number * 2 ^ (4 * c.args.count) + c.args.number in
    let fits : t < 2 ^ 24 = joined_fits p.text.now p.count p.number c.args.count c.args.number (omega arith) is.0 is.1 small in
    let whole : p.number * 2 ^ (4 * c.args.count) % 4294967296 + c.args.number ≡ t = omega (arith, fits) in
    printed_text c.from_number.result _ t (48 ∷ 120 ∷ six_digits t) _ whole
    (ap (λ (s : List ℕ). 48 ∷ 120 ∷ s) (joined_digits p.text.now p.count p.number c.args.count c.args.number (omega arith) is.0 is.1 small))
    (six_tag (λ _ _. []) t fits) c.from_number.ensures.some
