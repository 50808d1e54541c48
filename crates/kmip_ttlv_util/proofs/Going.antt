-- The loop that reads a diagnostic and writes its lines: what was written, and the pending end of the last line.
use Rattle.std.proofs.Common.{◌≡◌, ℕ, ◌-◌, ◌<◌, Bool, true, false, List, [], ◌∷◌, ◌++◌, length, cond, Option, Some, None, inl, inr, refl, sym, ap, subst, ◌∙◌}
use Rattle.std.proofs.Common.{append_assoc, append-nil, drop}
use Rattle.std.specs.{Str.IsUtf8, Str.trim_end, Prelude.codes, List.prefix_len}
use Rattle.std.proofs.lemmas.Str.{IsUtf8-append}
use Rattle.kmip_ttlv_types.specs.declared.typ.TtlvType.{TtlvType, TheVariants.Structure, TheVariants.Enumeration}
use Rattle.kmip_ttlv_util.specs.{Pending.pending_text, Pending.last_text, Letters.type_of_letter, Letters.is_hex, ReadBack.EndsAt, ReadBack.tag_in_front}
use Rattle.kmip_ttlv_types.specs.TypeTexts.{type_text}
use Rattle.kmip_ttlv_util.specs.Lines.{line, typ_part, hidden}
use Rattle.kmip_ttlv_util.specs.Undiag.{Step, reads_on, stops_with, data_step, type_step, letter_step, step, undiag_from, undiag_lines, front_type, written_by}
use Rattle.kmip_ttlv_util.proofs.Ends.{Standing, standing_start, standing_goes, standing_ends}
use Rattle.kmip_ttlv_util.proofs.Firm.{Solid, IsFirm, firm_utf8, firm_keeps, firm_trimmed, pending_utf8, solid_behind, trim_pending, Begun, typed_solid}
use Rattle.kmip_ttlv_util.proofs.Parts.{step_close, step_no_tag, step_tag, letter_is, letter_none}
use Rattle.kmip_ttlv_util.proofs.Reading.{Reading, reading_start, reading_goes, reading_stops, lines_of}
use Rattle.kmip_ttlv_util.proofs.Saying.{Begins, begins_equal}

-- what a step writes
abbrev pub text_of : Step → List ℕ
text_of (reads_on w d r) = w
text_of (stops_with w) = w

module _ (beginning : ℕ → ℕ → List ℕ) (depth tag : ℕ) where
  line_begins : (typ : TtlvType) (shown : List ℕ) → Begins (typ_part beginning depth tag typ) (line beginning depth tag typ shown)
  unfolding line
  line_begins typ shown = record { more = codes ", Data: " ++ (shown ++ (10 ∷ [])); is = refl }

  value_begins : (b : Bool) (x y : List ℕ) → Begins (typ_part beginning depth tag Enumeration)
      (text_of (cond b (reads_on (line beginning depth tag Enumeration x) depth y) (stops_with (typ_part beginning depth tag Enumeration))))
  value_begins true x y = line_begins Enumeration x
  value_begins false x y = begins_equal refl

  -- what is written for an item begins with its tag and type
  data_begins : (typ : TtlvType) (s : List ℕ) → Begins (typ_part beginning depth tag typ) (text_of (data_step beginning depth tag typ s))
  data_begins typ [] = begins_equal refl
  data_begins Structure (c ∷ s) = line_begins Structure []
  data_begins Enumeration (c ∷ s) = value_begins _ _ _
  data_begins typ (c ∷ s) = line_begins typ hidden

  type_begins : (s : List ℕ) (o : Option TtlvType) → Begins (beginning depth tag) (text_of (type_step beginning depth tag s o))
  type_begins s None = begins_equal refl
  type_begins s (Some typ) =
      let k = data_begins typ s in
      record { more = (codes ", Type: " ++ type_text typ) ++ k.more; is = k.is ∙ append_assoc (beginning depth tag) (codes ", Type: " ++ type_text typ) k.more }

  letter_begins : (s : List ℕ) → Begins (beginning depth tag) (text_of (letter_step beginning depth tag s))
  letter_begins [] = begins_equal refl
  letter_begins (c ∷ s) = type_begins s (type_of_letter c)

-- what will be written in the end
text_front : (t : Step) (more : ℕ → List ℕ → List ℕ) → Begins (text_of t) (written_by t more)
text_front (reads_on w d r) more = record { more = more d r; is = refl }
text_front (stops_with w) more = begins_equal refl

all_by : {beginning : ℕ → ℕ → List ℕ} {prefix s out rest : List ℕ} {depth : ℕ} → Reading beginning prefix s out depth rest → (tail : List ℕ)
    × (out ++ (text_of (step beginning prefix depth rest) ++ tail) ≡ undiag_lines beginning prefix s)
all_by {beginning} {prefix} {s} {out} {rest} {depth} g =
    let t = step beginning prefix depth rest in
    let k = text_front t (λ d r. undiag_from beginning (length rest) prefix d r) in
    (k.more, ap (λ (l : List ℕ). out ++ l) (sym k.is ∙ sym (lines_of beginning (length rest) prefix depth rest t refl)) ∙ g.lines)

-- a text was written, and a line's end is pending
pub record Going (beginning : ℕ → ℕ → List ℕ) (prefix s p : List ℕ) (pending : Bool) (shown : List ℕ) (depth : ℕ) (rest : List ℕ) : Type 0 where
  pub reading : Reading beginning prefix s (p ++ pending_text pending shown) depth rest
  pub standing : Standing beginning prefix s (p ++ pending_text pending shown) depth rest
  pub firm : IsFirm p
  pub utf8 : IsUtf8 shown

-- there is no whole part, and this is written of one
pub record Stops (beginning : ℕ → ℕ → List ℕ) (prefix : List ℕ) (depth : ℕ) (rest w : List ℕ) : Type 0 where
  pub is : step beginning prefix depth rest ≡ stops_with w
  pub firm : IsFirm w

-- before the first part
pub going_start : {beginning : ℕ → ℕ → List ℕ} {prefix s shown : List ℕ} → IsUtf8 shown → Going beginning prefix s [] false shown 0 s
going_start utf8 = record { reading = reading_start; standing = standing_start; firm = inl refl; utf8 = utf8 }

module _ {beginning : ℕ → ℕ → List ℕ} {prefix s p shown rest : List ℕ} {pending : Bool} {depth : ℕ}
    (g : Going beginning prefix s p pending shown depth rest) where
  -- what was written and is pending is UTF-8
  out_utf8 : IsUtf8 (p ++ pending_text pending shown)
  out_utf8 = IsUtf8-append p (pending_text pending shown) (firm_utf8 p g.firm) (pending_utf8 pending shown g.utf8)

  -- a line that begins after what was pending
  begun_firm : {b : List ℕ} → Solid b → IsFirm ((p ++ pending_text pending shown) ++ b)
  begun_firm {b} solid = inr (solid_behind (p ++ pending_text pending shown) b out_utf8 solid)

  -- the close of a structure
  pub goes_close : {left : List ℕ} → 0 < depth → rest ≡ 93 ∷ left → Going beginning prefix s p pending shown (depth - 1) left
  goes_close {left} deep shut =
      let is = step_close beginning prefix rest left depth shut deep in
      let none = append-nil (p ++ pending_text pending shown) in
      record {
        reading = rw none at (reading_goes g.reading is).0;
        standing = rw none at (standing_goes g.standing is);
        firm = g.firm;
        utf8 = g.utf8;
      }

  -- no tag: the pending line is the last
  pub no_tag : tag_in_front prefix rest ≡ None → ((r : List ℕ) → rest ≡ 93 ∷ r → depth ≡ 0) → Stops beginning prefix depth rest []
  no_tag none shut = record { is = step_no_tag beginning prefix rest depth none shut; firm = inl refl }

  pub last_trimmed : Stops beginning prefix depth rest [] → p ++ last_text pending (trim_end shown) ≡ trim_end (undiag_lines beginning prefix s)
  last_trimmed k = sym (trim_pending p pending shown g.firm g.utf8)
      ∙ ap trim_end (sym (append-nil (p ++ pending_text pending shown)) ∙ reading_stops g.reading k.is)

  -- a line begins, and is the last
  pub begun_trimmed : {w : List ℕ} → Stops beginning prefix depth rest w → Solid w
      → (p ++ pending_text pending shown) ++ w ≡ trim_end (undiag_lines beginning prefix s)
  begun_trimmed {w} k solid = sym (firm_trimmed ((p ++ pending_text pending shown) ++ w) (begun_firm solid)) ∙ ap trim_end (reading_stops g.reading k.is)

  -- the lines are UTF-8
  pub stops_utf8 : {w : List ℕ} → Stops beginning prefix depth rest w → IsUtf8 (undiag_lines beginning prefix s)
  stops_utf8 {w} k = subst IsUtf8 (reading_stops g.reading k.is) (IsUtf8-append (p ++ pending_text pending shown) w out_utf8 (firm_utf8 w k.firm))

  -- reading ends here
  pub stops_ends : {w : List ℕ} {used deep : ℕ} → Stops beginning prefix depth rest w → used ≡ length s - length rest → deep ≡ depth
      → EndsAt beginning prefix s (undiag_lines beginning prefix s) used deep
  stops_ends k count is = rw (is, ← reading_stops g.reading k.is) (standing_ends g.standing k.is count)

  -- ---- if writing fails, a beginning was written

  leads : (q z : List ℕ) → (p ++ pending_text pending shown) ++ text_of (step beginning prefix depth rest) ≡ q ++ z → IsFirm q
      → Begins q (trim_end (undiag_lines beginning prefix s))
  leads q z parts firm =
      let k = all_by g.reading in
      let lines : undiag_lines beginning prefix s ≡ q ++ (z ++ k.0) = sym k.1 ∙ sym (append_assoc (p ++ pending_text pending shown) _ k.0)
      ∙ ap (λ (l : List ℕ). l ++ k.0) parts ∙ append_assoc q z k.0 in
      record { more = trim_end (z ++ k.0); is = ap trim_end lines ∙ firm_keeps q (z ++ k.0) firm }

  -- nothing was written for the part
  pub leads_same : Begins p (trim_end (undiag_lines beginning prefix s))
  leads_same = leads p _ (append_assoc p (pending_text pending shown) (text_of (step beginning prefix depth rest))) g.firm

  -- a front of what it gives was written
  leads_by : {b : List ℕ} (t : Step) → step beginning prefix depth rest ≡ t → Begins b (text_of t) → Solid b
      → Begins ((p ++ pending_text pending shown) ++ b) (trim_end (undiag_lines beginning prefix s))
  leads_by {b} t is k solid =
      let before = p ++ pending_text pending shown in
      leads (before ++ b) k.more (ap (λ (u : Step). before ++ text_of u) is ∙ ap (λ (w : List ℕ). before ++ w) k.is ∙ sym (append_assoc before b k.more))
      (begun_firm solid)

  -- ---- a tag

  module _ {tag : ℕ} {b : List ℕ} (line_is : Begun beginning depth tag b) (found : tag_in_front prefix rest ≡ Some tag) where
    -- a beginning of its line was written
    pub leads_tag : Begins ((p ++ pending_text pending shown) ++ b) (trim_end (undiag_lines beginning prefix s))
    leads_tag = leads_by _ (step_tag beginning prefix rest depth tag found)
        (rw line_is.is (letter_begins beginning depth tag (drop (prefix_len is_hex rest) rest))) line_is.solid

    -- no type follows
    pub no_type : front_type (drop (prefix_len is_hex rest) rest) ≡ None → Stops beginning prefix depth rest b
    no_type none = record {
      is = rw line_is.is (step_tag beginning prefix rest depth tag found ∙ letter_none beginning depth tag (drop (prefix_len is_hex rest) rest) none);
      firm = inr line_is.solid;
    }

    module _ {typ : TtlvType} {behind : List ℕ} (typed : front_type (drop (prefix_len is_hex rest) rest) ≡ Some (typ, behind)) where
      type_is : step beginning prefix depth rest ≡ data_step beginning depth tag typ behind
      type_is = step_tag beginning prefix rest depth tag found ∙ letter_is beginning depth tag (drop (prefix_len is_hex rest) rest) behind typ typed

      -- a type follows
      pub leads_type : Begins ((p ++ pending_text pending shown) ++ (b ++ (codes ", Type: " ++ type_text typ))) (trim_end (undiag_lines beginning prefix s))
      leads_type = leads_by _ type_is (rw line_is.is (data_begins beginning depth tag typ behind)) (typed_solid typ line_is.solid)

      -- and no data
      pub no_data : ((b : ℕ → ℕ → List ℕ) (n : ℕ) → data_step b depth n typ behind ≡ stops_with (typ_part b depth n typ))
          → Stops beginning prefix depth rest (b ++ (codes ", Type: " ++ type_text typ))
      no_data none = record { is = rw line_is.is (type_is ∙ none beginning tag); firm = inr (typed_solid typ line_is.solid) }

      -- an item
      pub goes_item : {shows left : List ℕ} {deep : ℕ}
          → ((b : ℕ → ℕ → List ℕ) (n : ℕ) → data_step b depth n typ behind ≡ reads_on (line b depth n typ shows) deep left) → IsUtf8 shows
          → Going beginning prefix s ((p ++ pending_text pending shown) ++ (b ++ (codes ", Type: " ++ type_text typ))) true shows deep left
          × (length left < length rest)
      unfolding line
      goes_item {shows} part utf8 =
          let text = append_assoc (p ++ pending_text pending shown) (b ++ (codes ", Type: " ++ type_text typ)) (pending_text true shows) in
          let goes = reading_goes g.reading (type_is ∙ part beginning tag) in (
            record {
              reading = rw (text, line_is.is) goes.0;
              standing = rw (text, line_is.is) (standing_goes g.standing (type_is ∙ part beginning tag));
              firm = begun_firm (typed_solid typ line_is.solid);
              utf8 = utf8;
            },
            goes.1,
          )
