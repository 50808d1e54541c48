-- What lacks padding at its end isn't split by any items, so no form reads it.
use Rattle.std.proofs.Common.{◌≡◌, ℕ, ◌+◌, List, [], ◌∷◌, ◌++◌, length, get_or, take, drop, refl, sym, ap, ◌∙◌, arith, append_assoc}
use Rattle.std.specs.Int.{w32, from_be_bytes}
use Rattle.std.proofs.lemmas.List.{take_at, drop_at, length-append}
use Rattle.std.proofs.lemmas.Nat.{from_be_bytes-to_be_bytes_4}
use Rattle.kmip_ttlv_types.specs.{declared.typ.TtlvType.TheVariants.Structure, ItemTypes.padding, Places.size}
use Rattle.kmip_ttlv_types.specs.Items.{Raw, IsTextOf, Splits, header}
use Rattle.kmip_ttlv_base.specs.Forms.{Content, Form, Variants}
use Rattle.kmip_ttlv_base.specs.Values.{Value}
use Rattle.kmip_ttlv_types.proofs.PlaceLemmas.{code_one}
use Rattle.kmip_ttlv_reader.specs.TagValues.{TagValue}
use Rattle.kmip_ttlv_reader.specs.Reads.{Reads, ReadsContent, ReadsVariant, by_number, by_rule, here, leaf, parts, run, structure, there, whole, wrap}
use Rattle.kmip_ttlv_reader.specs.Reads.{wrap_some}
use Rattle.kmip_ttlv_parts.specs.{ReadingLaws.PaddingIsRequired, ReadingLaws.PaddingOfRootsIsRequired, Padding.LacksPadding}
use Rattle.kmip_ttlv_parts.proofs.{Padding.no_structure, Roots.one_item, Roots.root_of_begins, Roots.text_length}

-- how long an item that lacks padding is
lacking_length : (x : Raw) (a : List ℕ) (l : LacksPadding x a) → length a ≡ 8 + length x.content + length l.pad
lacking_length x a l = ap length l.parts ∙ omega (arith, length-append x.content l.pad)

-- what lacks padding doesn't begin with a whole item
not_whole : (x z : Raw) (a t rest : List ℕ) → LacksPadding x a → IsTextOf z t → a ≡ t ++ rest → ⊥
not_whole x z a t rest l w e =
    let split : header x.tag x.typ (length x.content) ++ (x.content ++ l.pad) ≡ header z.tag z.typ (length z.content) ++ ((z.content ++ w.pad) ++ rest) =
    sym l.parts ∙ e ∙ ap (λ (b : List ℕ). b ++ rest) w.parts in
    let heads = sym (take_at (header x.tag x.typ (length x.content)) (x.content ++ l.pad) 8 refl) ∙ ap (take 8) split
    ∙ take_at (header z.tag z.typ (length z.content)) ((z.content ++ w.pad) ++ rest) 8 refl in
    let types = code_one x.typ z.typ (ap (λ (b : List ℕ). get_or b 3 0) heads) in
    let lengths : length x.content ≡ length z.content = sym (from_be_bytes-to_be_bytes_4 (length x.content) l.length_fits)
    ∙ ap (λ (b : List ℕ). from_be_bytes w32 (drop 4 b)) heads ∙ from_be_bytes-to_be_bytes_4 (length z.content) w.length_fits in
    let pads : padding x.typ (length x.content) ≡ padding z.typ (length z.content) = cc in
    absurd (omega (arith, lacking_length x a l, text_length z t w, ap length e, length-append t rest, l.pad_short, pads, lengths))

-- bytes that end in an item that lacks padding are no list of items
not_split : (xs : List Raw) (x : Raw) (front back content : List ℕ) → content ≡ front ++ back → Splits xs front → LacksPadding x back → (zs : List Raw)
    → Splits zs content → ⊥
not_split [] x front back content e s l (y ∷ ys) z = not_whole x y back z.0 z.1 l z.2 (sym (e ∙ ap (λ (b : List ℕ). b ++ back) s) ∙ z.3)
not_split ws x front back content e s l [] z = absurd (omega (arith, ap length e, ap length z, length-append front back, lacking_length x back l))
not_split (w ∷ ws) x front back content e s l (y ∷ ys) z =
    let whole-is : content ≡ s.0 ++ (s.1 ++ back) = e ∙ ap (λ (b : List ℕ). b ++ back) s.3 ∙ append_assoc s.0 s.1 back in
    let both : s.0 ++ (s.1 ++ back) ≡ z.0 ++ z.1 = sym whole-is ∙ z.3 in
    let one : w ≡ y = one_item w y s.0 z.0 (s.1 ++ back) z.1 s.2 z.2 both in
    let long : length z.0 ≡ length s.0 = text_length y z.0 z.2 ∙ ap (λ (r : Raw). size r.typ (length r.content)) (sym one) ∙ sym (text_length w s.0 s.2) in
    let rest : z.1 ≡ s.1 ++ back = sym (drop_at z.0 z.1 (length s.0) long) ∙ ap (drop (length s.0)) (sym both) ∙ drop_at s.0 (s.1 ++ back) (length s.0) refl in
    not_split ws x s.1 back z.1 rest s.4 l ys z.4

-- ---- what a form reads from a Structure is split

mutual
  split_of_reads : {s : Form} {k k' : List TagValue} {x : Raw} {xs ys : List Raw} {v : Value} → x.typ ≡ Structure → Reads s k (x ∷ xs) v k' ys → (zs : List Raw)
      × Splits zs x.content
  split_of_reads e (leaf {h = h} t v) = absurd (no_structure h.typ h.content v e)
  split_of_reads e (wrap_some r) = split_of_reads e r
  split_of_reads e (wrap r) = split_of_reads e r
  split_of_reads e (run r rs) = split_of_reads e r
  split_of_reads e (structure {zs = zs} n t z fs m) = (zs, z)
  split_of_reads e (by_rule c r) = split_of_variant e r
  split_of_reads e (by_number {h = h} c t v f) = absurd (no_structure h.typ h.content v e)

  split_of_variant : {name : List ℕ} {vs : Variants} {i : ℕ} {k k' : List TagValue} {x : Raw} {xs ys : List Raw} {v : Value} → x.typ ≡ Structure
      → ReadsVariant name vs i k (x ∷ xs) v k' ys → (zs : List Raw) × Splits zs x.content
  split_of_variant e (here r) = split_of_content e r
  split_of_variant e (there r) = split_of_variant e r

  split_of_content : {name vname : List ℕ} {c : Content} {k k' : List TagValue} {x : Raw} {xs ys : List Raw} {v : Value} → x.typ ≡ Structure
      → ReadsContent name vname c k (x ∷ xs) v k' ys → (zs : List Raw) × Splits zs x.content
  split_of_content e (whole r) = split_of_reads e r
  split_of_content e (parts {zs = zs} t z r) = (zs, z)

pub padding_is_required : PaddingIsRequired
padding_is_required s k k' x xs ys v e r = let z = split_of_reads e.is_structure r in
    not_split e.whole e.lacking e.front e.back x.content e.parts e.are_whole e.lacks z.0 z.1

pub padding_of_roots_is_required : PaddingOfRootsIsRequired
padding_of_roots_is_required s x a after v t e g = let r = root_of_begins s x a after v t g in padding_is_required s [] r.stored x [] [] v e r.reads
