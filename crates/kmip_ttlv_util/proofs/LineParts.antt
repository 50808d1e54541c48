-- The parts of a readable line.
use Rattle.std.proofs.Common.{◌≡◌, ◌≢◌, ◌≤◌, ◌<◌, ◌++◌, ◌∷◌, [], sym, refl, List, ℕ, Bool, length, Option, None, append_assoc, arith}
use Rattle.std.specs.{Prelude.codes, Option.option_map, Map.lookup, HashMap.hash_map_len, Borrow.Bor}
use Rattle.kmip_ttlv_types.specs.{declared.typ.TtlvType.TtlvType, declared.typ.TtlvType.TheVariants.Structure, TypeTexts.type_text}
use Rattle.kmip_ttlv_util.specs.TagNames.{NameMap, name_in}
use Rattle.std.proofs.lemmas.Bool.{le-leb, lt-leb}
use Rattle.kmip_ttlv_util.specs.Lines.{part_of, tag_part, data_part, depth_mark, bounded_part}
use Rattle.kmip_ttlv_util.proofs.Saying.{Begins}
use Rattle.kmip_ttlv_util.specs.Pretty.{value_shown, data_shown, pretty_line}

-- in an empty list nothing is found
none_found : (test : ℕ → Bool) (es : List (ℕ × Bor (List ℕ))) → length es ≡ 0 → option_map (λ s. s.now) (lookup test es) ≡ None
none_found test [] e = refl
none_found test (x ∷ es) e = absurd (omega arith)

-- an empty map has no name
pub no_name : (names : NameMap) (tag : ℕ) → hash_map_len names ≡ 0 → name_in names tag ≡ None
no_name names tag e = none_found _ names.entries e

-- the line of a structure
pub line_structure : (names : ℕ → Option (List ℕ)) (depth tag : ℕ) (typ : TtlvType) (content : List ℕ) → typ ≡ Structure
    → tag_part names depth tag ++ (data_part Structure ++ (10 ∷ [])) ≡ pretty_line names depth tag typ content
unfolding pretty_line data_shown
line_structure names depth tag Structure content e =
    sym (append_assoc (tag_part names depth tag) (codes ", Type: " ++ type_text Structure) (codes ", Data:" ++ (10 ∷ [])))
line_structure names depth tag typ content e = absurd cc

-- the parts of a leaf's line
joined : (front words value : List ℕ) → front ++ ((words ++ codes ", Data: ") ++ (value ++ (10 ∷ []))) ≡ (front ++ words)
    ++ (codes ", Data:" ++ ((32 ∷ value) ++ (10 ∷ [])))
joined front words value = simp append_assoc

-- the line of a leaf
pub line_leaf : (names : ℕ → Option (List ℕ)) (depth tag : ℕ) (typ : TtlvType) (content : List ℕ) → typ ≢ Structure
    → tag_part names depth tag ++ (data_part typ ++ (value_shown typ content ++ (10 ∷ []))) ≡ pretty_line names depth tag typ content
unfolding pretty_line data_shown
line_leaf names depth tag Structure content ne = absurd (ne refl)
line_leaf names depth tag typ content ne = joined (tag_part names depth tag) (codes ", Type: " ++ type_text typ) (value_shown typ content)

-- a line begins with its tag
pub line_front : (names : ℕ → Option (List ℕ)) (depth tag : ℕ) (typ : TtlvType) (content : List ℕ)
    → Begins (tag_part names depth tag) (pretty_line names depth tag typ content)
unfolding pretty_line
line_front names depth tag typ content = record { more = _; is = append_assoc (tag_part names depth tag) (codes ", Type: " ++ type_text typ) _ }

-- a line in at most 64 structures is fully indented
pub bounded_low : (names : ℕ → Option (List ℕ)) (depth tag : ℕ) → depth ≤ 64 → part_of 6 names depth tag ≡ bounded_part names depth tag
unfolding bounded_part
bounded_low names depth tag low = rw (le-leb depth 64 low) refl

-- a line in more has their number
pub bounded_deep : (names : ℕ → Option (List ℕ)) (depth tag : ℕ) → 64 < depth → depth_mark depth ++ part_of 6 names 0 tag ≡ bounded_part names depth tag
unfolding bounded_part
bounded_deep names depth tag deep = rw (lt-leb depth 64 deep) refl
