-- The loop that reads a diagnostic.
use Rattle.std.proofs.Common.{◌≡◌, ℕ, zero, suc, ◌+◌, ◌<◌, ◌≤◌, Bool, true, false, cond, eqb, List, [], ◌∷◌, ◌++◌, length, take, drop, Option, Some, None, refl}
use Rattle.std.proofs.Common.{sym, ap, subst, ◌∙◌, arith, append_assoc}
use Rattle.std.specs.List.{prefix_len, position_or_len}
use Rattle.std.proofs.lemmas.List.{length-drop}
use Rattle.kmip_ttlv_types.specs.{declared.typ.TtlvType.TtlvType, declared.typ.TtlvType.TheVariants.Enumeration, Names.tag_of}
use Rattle.kmip_ttlv_util.specs.Letters.{is_hex, type_of_letter}
use Rattle.kmip_ttlv_util.specs.Undiag.{Step, reads_on, stops_with, close_step, data_step, type_step, letter_step, tag_step, step, written_by, undiag_from}
use Rattle.kmip_ttlv_util.specs.Undiag.{undiag_lines}

module _ (beginning : ℕ → ℕ → List ℕ) where
  -- a part is not empty, and opens at most one structure
  abbrev pub Shorter : ℕ → List ℕ → Step → Type 0
  Shorter depth s (reads_on w d r) = (length r < length s) × (d + length r ≤ depth + length s)
  Shorter depth s (stops_with w) = Unit {0}

  -- a part of a text is shorter than a longer text too
  longer : (depth : ℕ) (r s : List ℕ) (t : Step) → length r ≤ length s → Shorter depth r t → Shorter depth s t
  longer depth r s (reads_on w d q) le h = (omega (arith, h.0), omega (arith, h.1))
  longer depth r s (stops_with w) le h = tt

  -- a value is not empty
  value_shorter : (depth tag c n : ℕ) (s : List ℕ) (b : Bool) (w v : List ℕ) → Shorter depth (c ∷ s) (cond b (reads_on w depth (drop n s)) (stops_with v))
  value_shorter depth tag c n s true w v = (omega (arith, length-drop n s), omega (arith, length-drop n s))
  value_shorter depth tag c n s false w v = tt

  -- nor is what follows a type
  data_shorter : (depth tag c : ℕ) (typ : TtlvType) (s : List ℕ) → Shorter depth (c ∷ s) (data_step beginning depth tag typ s)
  data_shorter depth tag c typ [] = tt
  data_shorter depth tag c Enumeration (a ∷ s) = value_shorter depth tag c (position_or_len (λ b. eqb b 58) (a ∷ s) + 1) (a ∷ s) _ _ _
  data_shorter depth tag c typ (a ∷ s) = (omega arith, omega arith)

  -- nor a type
  type_shorter : (depth tag c : ℕ) (s : List ℕ) (o : Option TtlvType) → Shorter depth (c ∷ s) (type_step beginning depth tag s o)
  type_shorter depth tag c s None = tt
  type_shorter depth tag c s (Some typ) = data_shorter depth tag c typ s

  -- nor a letter
  letter_shorter : (depth tag : ℕ) (s : List ℕ) → Shorter depth s (letter_step beginning depth tag s)
  letter_shorter depth tag [] = tt
  letter_shorter depth tag (c ∷ s) = type_shorter depth tag c s (type_of_letter c)

  -- nor a tag
  tag_shorter : (depth : ℕ) (s : List ℕ) (o : Option ℕ) → Shorter depth s (tag_step beginning depth s o)
  tag_shorter depth s None = tt
  tag_shorter depth s (Some tag) = letter_shorter depth tag s

  -- nor a `]`
  close_shorter : (depth c : ℕ) (s : List ℕ) → Shorter depth (c ∷ s) (close_step depth s)
  close_shorter zero c s = tt
  close_shorter (suc d) c s = (omega arith, omega arith)

  -- one of two
  either : (depth : ℕ) (s : List ℕ) (b : Bool) (t u : Step) → Shorter depth s t → Shorter depth s u → Shorter depth s (cond b t u)
  either depth s true t u p q = p
  either depth s false t u p q = q

  -- each part shortens the text
  pub step_shorter : (prefix : List ℕ) (depth : ℕ) (s : List ℕ) → Shorter depth s (step beginning prefix depth s)
  unfolding step
  step_shorter prefix depth [] = tt
  step_shorter prefix depth (c ∷ s) =
      let n = prefix_len is_hex (c ∷ s) in
      either depth (c ∷ s) (eqb c 93) _ _ (close_shorter depth c s) (longer depth (drop n (c ∷ s)) (c ∷ s) _ (omega (arith, length-drop n (c ∷ s)))
      (tag_shorter depth (drop n (c ∷ s)) (tag_of (48 ∷ 120 ∷ (prefix ++ take n (c ∷ s))))))

  -- the lines, given the first part
  pub lines_of : (most : ℕ) (prefix : List ℕ) (depth : ℕ) (s : List ℕ) (t : Step) → step beginning prefix depth s ≡ t
      → undiag_from beginning (suc most) prefix depth s ≡ written_by t (λ d r. undiag_from beginning most prefix d r)
  unfolding undiag_from
  lines_of most prefix depth s t e = ap (λ (u : Step). written_by u (λ d r. undiag_from beginning most prefix d r)) e

  -- more turns than characters change nothing
  enough : (f g : ℕ) (prefix : List ℕ) (depth : ℕ) (s : List ℕ) → length s < f → length s < g
      → undiag_from beginning f prefix depth s ≡ undiag_from beginning g prefix depth s
  unfolding undiag_from
  enough zero g prefix depth s p q = absurd (omega arith)
  enough (suc f) zero prefix depth s p q = absurd (omega arith)
  enough (suc f) (suc g) prefix depth s p q =
      by (step beginning prefix depth s) (step_shorter prefix depth s) (λ d r h. enough f g prefix d r (omega arith) (omega arith))
    where
      by : (t : Step) → Shorter depth s t
          → ((d : ℕ) (r : List ℕ) → length r < length s → undiag_from beginning f prefix d r ≡ undiag_from beginning g prefix d r)
          → written_by t (λ d r. undiag_from beginning f prefix d r) ≡ written_by t (λ d r. undiag_from beginning g prefix d r)
      by (reads_on w d r) h more = ap (λ (l : List ℕ). w ++ l) (more d r h.0)
      by (stops_with w) h more = refl

  -- what is written of a text
  abbrev pub text_at : List ℕ → ℕ → List ℕ → List ℕ
  text_at prefix depth s = undiag_from beginning (suc (length s)) prefix depth s

  -- a part and the rest
  pub part_read : {w r : List ℕ} {d : ℕ} (prefix : List ℕ) (depth : ℕ) (s : List ℕ) → step beginning prefix depth s ≡ reads_on w d r
      → text_at prefix depth s ≡ w ++ text_at prefix d r
  part_read {w} {r} {d} prefix depth s is =
      let less : Shorter depth s (reads_on w d r) = subst (Shorter depth s) is (step_shorter prefix depth s) in
      lines_of (length s) prefix depth s _ is ∙ ap (λ (l : List ℕ). w ++ l) (enough (length s) (suc (length r)) prefix d r less.0 (omega arith))

-- what is written, and the lines that are left
pub record Reading (beginning : ℕ → ℕ → List ℕ) (prefix s out : List ℕ) (depth : ℕ) (rest : List ℕ) : Type 0 where
  pub lines : out ++ text_at beginning prefix depth rest ≡ undiag_lines beginning prefix s
  pub shallow : depth + length rest ≤ length s

module _ {beginning : ℕ → ℕ → List ℕ} {prefix s : List ℕ} where
  -- before the first part
  pub reading_start : Reading beginning prefix s [] 0 s
  unfolding undiag_lines
  reading_start = record { lines = refl; shallow = omega arith }

  -- a part is read
  pub reading_goes : {out w rest r : List ℕ} {depth d : ℕ} → Reading beginning prefix s out depth rest → step beginning prefix depth rest ≡ reads_on w d r
      → Reading beginning prefix s (out ++ w) d r × (length r < length rest)
  reading_goes {out} {w} {rest} {r} {depth} {d} k is =
      let less = subst (Shorter beginning depth rest) is (step_shorter beginning prefix depth rest) in (
        record {
          lines = append_assoc out w _ ∙ ap (λ (l : List ℕ). out ++ l) (sym (part_read beginning prefix depth rest is)) ∙ k.lines;
          shallow = omega (arith, less.1, k.shallow);
        },
        less.0,
      )

  -- there is no whole part
  pub reading_stops : {out w rest : List ℕ} {depth : ℕ} → Reading beginning prefix s out depth rest → step beginning prefix depth rest ≡ stops_with w
      → out ++ w ≡ undiag_lines beginning prefix s
  reading_stops {out} {w} {rest} {depth} k is = ap (λ (l : List ℕ). out ++ l) (sym (lines_of beginning (length rest) prefix depth rest _ is)) ∙ k.lines
