-- Any text is read back as its longest list of parts.
use Rattle.std.proofs.Common.{◌≡◌, ◌≢◌, ℕ, zero, suc, ◌+◌, ◌<◌, Bool, true, false, not, ◌&&◌, cond, eqb, ltb, List, [], ◌∷◌, ◌++◌, length, take, drop, Option}
use Rattle.std.proofs.Common.{Some, None, refl, sym, ap, subst, ◌∙◌, arith, append_assoc, length-append}
use Rattle.std.specs.List.{prefix_len}
use Rattle.std.proofs.lemmas.Bool.{ne_eqb, eqb-true, eqb-false, lt-ltb, ltb-true}
use Rattle.std.proofs.lemmas.List.{take-append-drop, length-take-le}
use Rattle.kmip_ttlv_types.specs.declared.typ.TtlvType.{TtlvType, TheVariants.Structure, TheVariants.Enumeration}
use Rattle.kmip_ttlv_types.specs.Names.{tag_of}
use Rattle.kmip_ttlv_util.specs.Letters.{letter, is_hex, type_of_letter}
use Rattle.kmip_ttlv_util.specs.Lines.{tag_part, typ_part, line, hidden}
use Rattle.kmip_ttlv_util.specs.Undiag.{Step, reads_on, stops_with, close_step, value_step, data_step, type_step, letter_step, tag_step, digits_step, step}
use Rattle.kmip_ttlv_util.specs.Undiag.{undiag_lines, undiag}
use Rattle.kmip_ttlv_util.specs.ReadBack.{close_part, item_part, Part, NoColon, IsPartTail, tag_in_front, typ_in_front, IsPartAt, depth_behind, part_line}
use Rattle.kmip_ttlv_util.specs.ReadBack.{part_lines, unfinished, Longest, ReadsLongest}
use Rattle.kmip_ttlv_util.proofs.Reading.{Shorter, step_shorter, lines_of, text_at, part_read}
use Rattle.kmip_ttlv_util.proofs.Letters.{letter_type, letter_back}

-- ---- a value before a colon

abbrev other : ℕ → Bool
other b = not (eqb b 58)

-- there is no colon before the first
no_colon : (xs : List ℕ) → NoColon (take (prefix_len other xs) xs)
no_colon [] = tt
no_colon (x ∷ xs) = by (eqb x 58) refl (no_colon xs)
  where
    by : (b : Bool) → eqb x 58 ≡ b → NoColon (take (prefix_len other xs) xs) → NoColon (take (cond (not b) (1 + prefix_len other xs) 0) (x ∷ xs))
    by true e more = tt
    by false e more =
        let ne : x ≢ 58 = eqb-false x 58 e in
        let one : 1 + prefix_len other xs ≡ suc (prefix_len other xs) = omega arith in
        rw one (ne, more)

-- after that comes a colon
at_colon : (xs : List ℕ) → prefix_len other xs < length xs → drop (prefix_len other xs) xs ≡ 58 ∷ drop (prefix_len other xs + 1) xs
at_colon [] lt = absurd (omega arith)
at_colon (x ∷ xs) lt = by (eqb x 58) refl (at_colon xs) lt
  where
    by : (b : Bool) → eqb x 58 ≡ b → (prefix_len other xs < length xs → drop (prefix_len other xs) xs ≡ 58 ∷ drop (prefix_len other xs + 1) xs)
        → cond (not b) (1 + prefix_len other xs) 0 < length (x ∷ xs) → drop (cond (not b) (1 + prefix_len other xs) 0) (x ∷ xs) ≡ 58 ∷ drop
        (cond (not b) (1 + prefix_len other xs) 0 + 1) (x ∷ xs)
    by true e more h = ap (λ (c : ℕ). c ∷ xs) (eqb-true x 58 e)
    by false e more h =
        let one : 1 + prefix_len other xs ≡ suc (prefix_len other xs) = omega arith in
        let two : suc (prefix_len other xs) + 1 ≡ suc (prefix_len other xs + 1) = omega arith in
        rw (one, two) (more (omega arith))

-- a value without a colon ends at the first colon
span : (ds s : List ℕ) → NoColon ds → prefix_len other (ds ++ (58 ∷ s)) ≡ length ds
span [] s all = refl
span (d ∷ ds) s all = let k = span ds s all.1 in rw (ne_eqb d 58 all.0) (omega (arith, k))

module _ (beginning : ℕ → ℕ → List ℕ) (prefix : List ℕ) where
  -- what a step shows of the next part
  abbrev pub StepIs : ℕ → List ℕ → Step → Type 0
  StepIs depth s (reads_on w d r) = (p : Part) × IsPartAt prefix depth s p r × (d ≡ depth_behind depth p) × (w ≡ part_line beginning depth p)
  StepIs depth s (stops_with w) = ((p : Part) (more : List ℕ) → IsPartAt prefix depth s p more → ⊥) × (w ≡ unfinished beginning prefix depth s)

  -- of a text that doesn't begin with `]`
  module _ (depth : ℕ) (s : List ℕ) (open_ : (r : List ℕ) → s ≡ 93 ∷ r → ⊥) where
    abbrev digits_end : ℕ
    digits_end = prefix_len is_hex s

    -- only items may be parts
    only_items : ((tag : ℕ) (typ : TtlvType) (shown more : List ℕ) → IsPartAt prefix depth s (item_part tag typ shown) more → ⊥)
        → (p : Part) (more : List ℕ) → IsPartAt prefix depth s p more → ⊥
    only_items never close_part more h = open_ more h.1
    only_items never (item_part tag typ shown) more h = never tag typ shown more h

    no_tag : tag_in_front prefix s ≡ None → StepIs depth s (stops_with [])
    no_tag none = (only_items (λ tag typ shown more h. let k = h.1 in absurd cc), rw none refl)

    no_letter : (tag : ℕ) → tag_in_front prefix s ≡ Some tag → typ_in_front (drop digits_end s) ≡ None → StepIs depth s (stops_with (beginning depth tag))
    no_letter tag some none = (only_items (λ t typ shown more h. let k = ap typ_in_front h.2 ∙ letter_back typ in absurd cc), rw (some, none) refl)

    no_data : (tag : ℕ) (typ : TtlvType) (c : ℕ) (r : List ℕ) → tag_in_front prefix s ≡ Some tag → drop digits_end s ≡ c ∷ r → type_of_letter c ≡ Some typ
        → ((shown more : List ℕ) → IsPartTail typ r shown more → ⊥) → StepIs depth s (stops_with (typ_part beginning depth tag typ))
    no_data tag typ c r some at is never = (only_items item, rw (some, at, is) refl)
      where
        item : (t : ℕ) (u : TtlvType) (shown more : List ℕ) → IsPartAt prefix depth s (item_part t u shown) more → ⊥
        item t u shown more h =
            let both : c ∷ r ≡ letter u ∷ h.0 = sym at ∙ h.2 in
            let first : c ≡ letter u = cc in
            let left : h.0 ≡ r = cc in
            let known : type_of_letter c ≡ Some u = ap type_of_letter first ∙ letter_back u in
            let same : u ≡ typ = cc in
            never shown more (rw (← same, ← left) h.3)

    whole : (tag : ℕ) (typ : TtlvType) (c : ℕ) (r shown more : List ℕ) (d : ℕ) → tag_in_front prefix s ≡ Some tag → drop digits_end s ≡ c ∷ r
        → type_of_letter c ≡ Some typ → IsPartTail typ r shown more → d ≡ depth_behind depth (item_part tag typ shown)
        → StepIs depth s (reads_on (line beginning depth tag typ shown) d more)
    whole tag typ c r shown more d some at is behind deep = (
      item_part tag typ shown,
      (r, some, at ∙ ap (λ (x : ℕ). x ∷ r) (letter_type c typ is), behind),
      deep,
      refl,
    )

    -- at the end of the text nothing follows a letter
    none_behind : (typ : TtlvType) (shown more : List ℕ) → IsPartTail typ [] shown more → ⊥
    none_behind Enumeration shown more h = omega (arith, ap length h.2, length-append shown (58 ∷ more))
    none_behind typ shown more h = omega (arith, ap length h.1, h.2)

    -- no value of an enumeration
    no_value : (r : List ℕ) → (ltb 0 (prefix_len other r) && ltb (prefix_len other r) (length r)) ≡ false → (shown more : List ℕ)
        → IsPartTail Enumeration r shown more → ⊥
    no_value r off shown more h =
        let n-is : prefix_len other r ≡ length shown = ap (prefix_len other) h.2 ∙ span shown more h.1 in
        let a : ltb 0 (prefix_len other r) ≡ true = lt-ltb 0 (prefix_len other r) (omega (arith, h.0)) in
        let b : ltb (prefix_len other r) (length r) ≡ true =
        lt-ltb (prefix_len other r) (length r) (omega (arith, ap length h.2, length-append shown (58 ∷ more))) in
        let both : (ltb 0 (prefix_len other r) && ltb (prefix_len other r) (length r)) ≡ true = rw (a, b) refl in
        absurd cc

    some_value : (r : List ℕ) → 0 < prefix_len other r → prefix_len other r < length r → IsPartTail Enumeration r (take (prefix_len other r) r)
        (drop (prefix_len other r + 1) r)
    some_value r some lt =
        let split : r ≡ take (prefix_len other r) r ++ (58 ∷ drop (prefix_len other r + 1) r) = sym (take-append-drop (prefix_len other r) r)
        ∙ ap (λ (t : List ℕ). take (prefix_len other r) r ++ t) (at_colon r lt) in
        (omega (arith, length-take-le (prefix_len other r) r (omega arith)), no_colon r, split)

    value_determines : (tag c : ℕ) (r : List ℕ) → tag_in_front prefix s ≡ Some tag → drop digits_end s ≡ c ∷ r → type_of_letter c ≡ Some Enumeration
        → StepIs depth s (value_step beginning depth tag r (prefix_len other r))
    value_determines tag c r some at is = by (ltb 0 (prefix_len other r)) (ltb (prefix_len other r) (length r)) refl refl
      where
        stop : (ltb 0 (prefix_len other r) && ltb (prefix_len other r) (length r)) ≡ false
            → StepIs depth s (stops_with (typ_part beginning depth tag Enumeration))
        stop off = no_data tag Enumeration c r some at is (no_value r off)

        by : (a b : Bool) → ltb 0 (prefix_len other r) ≡ a → ltb (prefix_len other r) (length r) ≡ b
            → StepIs depth s (cond (a && b) (reads_on (line beginning depth tag Enumeration (take (prefix_len other r) r)) depth
            (drop (prefix_len other r + 1) r)) (stops_with (typ_part beginning depth tag Enumeration)))
        by true true e f = whole tag Enumeration c r (take (prefix_len other r) r) (drop (prefix_len other r + 1) r) depth some at is
            (some_value r (ltb-true _ _ e) (ltb-true _ _ f)) refl
        by true false e f = stop (rw (e, f) refl)
        by false b e f = stop (rw e refl)

    data_determines : (tag : ℕ) (typ : TtlvType) (c : ℕ) (r : List ℕ) → tag_in_front prefix s ≡ Some tag → drop digits_end s ≡ c ∷ r
        → type_of_letter c ≡ Some typ
        → StepIs depth s (data_step beginning depth tag typ r)
    data_determines tag Structure c (e ∷ r) some at is = whole tag Structure c (e ∷ r) [] (e ∷ r) (suc depth) some at is (refl, refl, omega arith) refl
    data_determines tag Enumeration c (e ∷ r) some at is = value_determines tag c (e ∷ r) some at is
    data_determines tag typ c [] some at is = no_data tag typ c [] some at is (none_behind typ)
    data_determines tag typ c (e ∷ r) some at is = whole tag typ c (e ∷ r) hidden (e ∷ r) depth some at is (refl, refl, omega arith) refl

    letter_determines : (tag : ℕ) (rest : List ℕ) → tag_in_front prefix s ≡ Some tag → drop digits_end s ≡ rest
        → StepIs depth s (letter_step beginning depth tag rest)
    letter_determines tag [] some at = no_letter tag some (ap typ_in_front at)
    letter_determines tag (c ∷ r) some at = by (type_of_letter c) refl
      where
        by : (o : Option TtlvType) → type_of_letter c ≡ o → StepIs depth s (type_step beginning depth tag r o)
        by None e = no_letter tag some (ap typ_in_front at ∙ e)
        by (Some typ) e = data_determines tag typ c r some at e

    tag_determines : (o : Option ℕ) (rest : List ℕ) → tag_in_front prefix s ≡ o → drop digits_end s ≡ rest → StepIs depth s (tag_step beginning depth rest o)
    tag_determines None rest is at = no_tag is
    tag_determines (Some tag) rest is at = letter_determines tag rest is at

  -- there is no part at the end of a text
  no_end : (depth : ℕ) (p : Part) (more : List ℕ) → IsPartAt prefix depth [] p more → ⊥
  no_end depth close_part more h = let k = h.1 in absurd cc
  no_end depth (item_part tag typ shown) more h = let k = h.1 in absurd cc

  -- a `]` is no tag
  shut_none : (c : ℕ) (s : List ℕ) → eqb c 93 ≡ true → tag_in_front prefix (c ∷ s) ≡ None
  shut_none c s e = rw e refl

  -- a surplus `]` is no part
  no_shut : (c : ℕ) (s : List ℕ) → eqb c 93 ≡ true → (p : Part) (more : List ℕ) → IsPartAt prefix zero (c ∷ s) p more → ⊥
  no_shut c s e close_part more h = omega (arith, h.0)
  no_shut c s e (item_part tag typ shown) more h = let k = h.1 in let l = shut_none c s e in absurd cc

  -- what a step at `]` shows
  close_determines : (depth c : ℕ) (s : List ℕ) → eqb c 93 ≡ true → StepIs depth (c ∷ s) (close_step depth s)
  close_determines zero c s e = (no_shut c s e, rw (shut_none c s e) refl)
  close_determines (suc d) c s e = (close_part, (omega arith, ap (λ (x : ℕ). x ∷ s) (eqb-true c 93 e)), omega arith, refl)

  -- what any step shows
  pub step_is : (depth : ℕ) (s : List ℕ) → StepIs depth s (step beginning prefix depth s)
  unfolding step
  step_is depth [] = (no_end depth, refl)
  step_is depth (c ∷ s) = by (eqb c 93) refl
    where
      by : (b : Bool) → eqb c 93 ≡ b → StepIs depth (c ∷ s)
          (cond b (close_step depth s) (digits_step beginning prefix depth (c ∷ s) (prefix_len is_hex (c ∷ s))))
      by true e = close_determines depth c s e
      by false e =
          let ne : c ≢ 93 = eqb-false c 93 e in
          tag_determines depth (c ∷ s) (λ r h. let k : c ≡ 93 = cc in ne k) (tag_of (48 ∷ 120 ∷ (prefix ++ take (prefix_len is_hex (c ∷ s)) (c ∷ s))))
          (drop (prefix_len is_hex (c ∷ s)) (c ∷ s)) (rw e refl) refl

  -- ---- the whole text

  -- one more part before others
  more_parts : (depth : ℕ) (s w : List ℕ) (d : ℕ) (r text : List ℕ) → StepIs depth s (reads_on w d r) → Longest beginning prefix d r text
      → Longest beginning prefix depth s (w ++ text)
  more_parts depth s w d r text t k =
      let l = subst (λ (n : ℕ). Longest beginning prefix n r text) t.2 k in
      record {
        parts = t.0 ∷ l.parts;
        deep = l.deep;
        rest = l.rest;
        stand = (r, t.1, l.stand);
        no_more = l.no_more;
        written = ap (λ (x : List ℕ). x ++ text) t.3 ∙ ap (λ (x : List ℕ). part_line beginning depth t.0 ++ x) l.written
            ∙ sym (append_assoc (part_line beginning depth t.0) (part_lines beginning (depth_behind depth t.0) l.parts)
            (unfinished beginning prefix l.deep l.rest));
      }

  -- what is written are the lines of the longest list of parts
  longest : (most depth : ℕ) (s : List ℕ) → length s < most → Longest beginning prefix depth s (text_at beginning prefix depth s)
  longest zero depth s lt = absurd (omega arith)
  longest (suc most) depth s lt = by (step beginning prefix depth s) refl (step_is depth s) (step_shorter beginning prefix depth s)
      (λ d r le. longest most d r le)
    where
      by : (t : Step) → step beginning prefix depth s ≡ t → StepIs depth s t → Shorter beginning depth s t
          → ((d : ℕ) (r : List ℕ) → length r < most → Longest beginning prefix d r (text_at beginning prefix d r))
          → Longest beginning prefix depth s (text_at beginning prefix depth s)
      by (reads_on w d r) e t sh more = rw (part_read beginning prefix depth s e) (more_parts depth s w d r _ t (more d r (omega (arith, sh.0))))
      by (stops_with w) e t sh more = rw (lines_of beginning (length s) prefix depth s _ e)
          record { parts = []; deep = depth; rest = s; stand = (refl, refl); no_more = t.0; written = t.1 }

-- so is the trimmed result
pub reads_longest : (names : ℕ → Option (List ℕ)) (prefix s answer : List ℕ) → answer ≡ undiag names prefix s → ReadsLongest names prefix s answer
unfolding undiag undiag_lines
reads_longest names prefix s answer is = (_, longest (tag_part names) prefix (suc (length s)) 0 s (omega arith), is)
