-- The rows of a table of an Enumeration's numbers.
use Rattle.std.proofs.Common.{◌≡◌, ℕ, zero, suc, ◌<◌, ◌≤◌, true, false, cond, List, [], ◌∷◌, length, drop, slice_index_or, Some, None, refl, sym, ap, ◌∙◌}
use Rattle.std.proofs.Common.{arith, codes}
use Rattle.std.specs.{Borrow.Bor, Str.bytes_eq}
use Rattle.std.proofs.lemmas.Slice.Eq.{bytes_eq-Decides}
use Rattle.kmip_ttlv_types.specs.{declared.typ.TtlvType.TtlvType, Names.after_prefix}
use Rattle.kmip_ttlv_base.specs.Values.{Value, unit_variant_value}
use Rattle.kmip_ttlv_base.specs.Forms.{Variants, no_variants, variant, unit, wrapped, tuple, enum}
use Rattle.kmip_ttlv_reader.specs.{TagValues.TagValue, Reads.first_named}
use Rattle.kmip_ttlv_kinds.specs.ListedRows.{AreListed, IsRowNamed}
use Rattle.kmip_ttlv_reader.specs.Rules.{choice, number_decides, rule, verdict, no_rule}
use Rattle.kmip_ttlv_reader.specs.Steps.{Outcome, gives, ends_early, fails, ◌>>=◌}
use Rattle.kmip_ttlv_reader.specs.Outcomes.{outcome, enum_outcome, number_outcome, type_there, picked, by_index, variant_outcome}

-- the units of a table's names
abbrev pub units : {T : Type 0} → List (Bor (List ℕ) × T) → Variants
units [] = no_variants
units (row ∷ rows) = variant row.0.now unit (units rows)

pub are_units : {T : Type 0} (own : List ℕ) (f : T → Value) (vs : Variants) (rows : List (Bor (List ℕ) × T)) → AreListed own f vs rows → vs ≡ units rows
are_units own f no_variants [] h = refl
are_units own f no_variants (row ∷ rows) h = absurd h
are_units own f (variant name unit vs) [] h = absurd h
are_units own f (variant name unit vs) (row ∷ rows) h = ap (λ n. variant n unit vs) h.0 ∙ ap (variant row.0.now unit) (are_units own f vs rows h.3)
are_units own f (variant name (wrapped s) vs) [] h = absurd h
are_units own f (variant name (wrapped s) vs) (row ∷ rows) h = absurd h
are_units own f (variant name (tuple ss) vs) [] h = absurd h
are_units own f (variant name (tuple ss) vs) (row ∷ rows) h = absurd h

-- the rows from one on
rows_at : {T : Type 0} (name : List ℕ) (rows : List (Bor (List ℕ) × T)) (i : ℕ) (row : Bor (List ℕ) × T) → i < length rows → row ≡ slice_index_or rows i row
    → first_named name (units (drop i rows)) ≡ cond (bytes_eq row.0.now name) (Some unit) (first_named name (units (drop (suc i) rows)))
rows_at name [] i row l e = absurd (omega arith)
rows_at name (r ∷ rows) zero row l e = ap (λ q. cond (bytes_eq q.0.now name) (Some unit) (first_named name (units rows))) (sym e)
rows_at name (r ∷ rows) (suc i) row l e = rows_at name rows i row (omega arith) e

-- a row's value
value_at : {T : Type 0} (own : List ℕ) (f : T → Value) (vs : Variants) (rows : List (Bor (List ℕ) × T)) (i : ℕ) (row : Bor (List ℕ) × T)
    → AreListed own f vs rows → i < length rows → row ≡ slice_index_or rows i row → f row.1 ≡ unit_variant_value own row.0.now
value_at own f no_variants [] i row h l e = absurd (omega arith)
value_at own f no_variants (r ∷ rows) i row h l e = absurd h
value_at own f (variant name unit vs) [] i row h l e = absurd h
value_at own f (variant name unit vs) (r ∷ rows) zero row h l e = ap (λ q. f q.1) e ∙ h.2 ∙ ap (unit_variant_value own) (h.0 ∙ ap (λ q. q.0.now) (sym e))
value_at own f (variant name unit vs) (r ∷ rows) (suc i) row h l e = value_at own f vs rows i row h.3 (omega arith) e
value_at own f (variant name (wrapped s) vs) [] i row h l e = absurd h
value_at own f (variant name (wrapped s) vs) (r ∷ rows) i row h l e = absurd h
value_at own f (variant name (tuple ss) vs) [] i row h l e = absurd h
value_at own f (variant name (tuple ss) vs) (r ∷ rows) i row h l e = absurd h

-- the row whose name was looked for
pub row_found : {T : Type 0} (own : List ℕ) (f : T → Value) (vs : Variants) (name : List ℕ) (rows : List (Bor (List ℕ) × T)) (i : ℕ) (row : Bor (List ℕ) × T)
    → AreListed own f vs rows → i < length rows → row ≡ slice_index_or rows i row → true ≡ bytes_eq row.0.now name
    → first_named name vs ≡ first_named name (units (drop i rows))
    → IsRowNamed own f name (first_named name vs) (Some row)
row_found own f vs name rows i row h l e same left =
    let alike : row.0.now ≡ name = (bytes_eq-Decides row.0.now name).0 (sym same) in (
      left ∙ rows_at name rows i row l e ∙ ap (λ b. cond b (Some unit) (first_named name (units (drop (suc i) rows)))) (sym same),
      alike,
      value_at own f vs rows i row h l e ∙ ap (unit_variant_value own) alike,
    )

-- it is a later one
pub row_later : {T : Type 0} (vs : Variants) (name : List ℕ) (rows : List (Bor (List ℕ) × T)) (i : ℕ) (row : Bor (List ℕ) × T) → i < length rows
    → row ≡ slice_index_or rows i row → false ≡ bytes_eq row.0.now name
    → first_named name vs ≡ first_named name (units (drop i rows))
    → first_named name vs ≡ first_named name (units (drop (suc i) rows))
row_later vs name rows i row l e other left =
    left ∙ rows_at name rows i row l e ∙ ap (λ b. cond b (Some unit) (first_named name (units (drop (suc i) rows)))) (sym other)

-- no row is left
pub row_nowhere : {T : Type 0} (vs : Variants) (name : List ℕ) (rows : List (Bor (List ℕ) × T)) (i : ℕ) → length rows ≤ i
    → first_named name vs ≡ first_named name (units (drop i rows))
    → first_named name vs ≡ None
row_nowhere vs name rows i l left = left ∙ nothing rows i l
  where
    nothing : {T : Type 0} (rows : List (Bor (List ℕ) × T)) (i : ℕ) → length rows ≤ i → first_named name (units (drop i rows)) ≡ None
    nothing [] zero l = refl
    nothing [] (suc i) l = refl
    nothing (r ∷ rows) zero l = absurd (omega arith)
    nothing (r ∷ rows) (suc i) l = nothing rows i (omega arith)

-- where no name is a rule, the number chooses
no_rule_there : (name : List ℕ) (k : List TagValue) (t : TtlvType) → after_prefix (codes "if ") name ≡ None → rule name k t ≡ no_rule
unfolding rule
no_rule_there name k t none = ap (λ body. verdict name body k t) none

listed_choice : {T : Type 0} (own : List ℕ) (f : T → Value) (vs : Variants) (rows : List (Bor (List ℕ) × T)) (k : List TagValue) (t : TtlvType)
    → AreListed own f vs rows → choice vs k t ≡ number_decides
listed_choice own f no_variants rows k t h = refl
listed_choice own f (variant name unit vs) [] k t h = absurd h
listed_choice own f (variant name unit vs) (row ∷ rows) k t h = rw (no_rule_there name k t h.1, listed_choice own f vs rows k t h.3) refl
listed_choice own f (variant name (wrapped s) vs) [] k t h = absurd h
listed_choice own f (variant name (wrapped s) vs) (row ∷ rows) k t h = absurd h
listed_choice own f (variant name (tuple ss) vs) [] k t h = absurd h
listed_choice own f (variant name (tuple ss) vs) (row ∷ rows) k t h = absurd h

pub listed_is : {T : Type 0} (own : List ℕ) (f : T → Value) (vs : Variants) (rows : List (Bor (List ℕ) × T)) (b : List ℕ) (o : ℕ) (k : List TagValue) (p e : ℕ)
    → AreListed own f vs rows
    → outcome (enum own vs) b o k p e ≡ (type_there b p >>= λ t. number_outcome own vs t b o k p e)
unfolding outcome enum_outcome
listed_is own f vs rows b o k p e h = by (type_there b p)
  where
    by : (ty : Outcome TtlvType)
        → (ty >>= λ t. picked (choice vs k t) b p t >>= λ i. by_index i (variant_outcome own vs) (number_outcome own vs) t b o k p e)
        ≡ (ty >>= λ t. number_outcome own vs t b o k p e)
    by (gives t) = rw (listed_choice own f vs rows k t h) refl
    by ends_early = refl
    by (fails x) = refl
