-- Reading a line of diagnostics back ends somewhere, so each text has a first line that is not whole, or none.
use Rattle.std.proofs.Common.{◌≡◌, ℕ, zero, suc, ◌+◌, ◌<◌, List, [], ◌∷◌, ◌++◌, length, take, drop, Option, Some, None, refl, sym, ap, subst, ◌∙◌, arith}
use Rattle.std.proofs.Common.{append_assoc, length-append}
use Rattle.std.specs.{List.prefix_len, Str.trim_end}
use Rattle.std.proofs.{lemmas.List.take-append-drop, Math.Seq.drop-append_seam}
use Rattle.kmip_ttlv_types.specs.declared.typ.TtlvType.{TtlvType, TheVariants.Enumeration}
use Rattle.kmip_ttlv_util.specs.Letters.{letter, is_hex}
use Rattle.kmip_ttlv_util.specs.Undiag.{Step, reads_on, stops_with, step}
use Rattle.kmip_ttlv_util.specs.ReadBack.{close_part, item_part, Part, IsPartTail, IsPartAt, StandAll}
use Rattle.kmip_ttlv_util.proofs.{Longest.StepIs, Longest.step_is, Reading.Shorter, Reading.step_shorter}
use Rattle.ttlv_run.specs.declared.back.{BackFault.BackFault, BackFaultKind.BackFaultKind, BackFaultKind.TheVariants.NoPart, BackFaultKind.TheVariants.LeftOpen}
use Rattle.ttlv_run.specs.Backs.{IsWrong, BreaksText, TriesText, Tries, FirstBreak, all_whole, breaks_here, whole_here}
use Rattle.ttlv_run.specs.Columns.{mark_length, body}

module _ (prefix : List ℕ) where
  -- the longest list of parts in front of a text, and what is left behind them
  record Longest (depth : ℕ) (s : List ℕ) : Type 0 where
    parts : List Part
    deep : ℕ
    front : List ℕ
    rest : List ℕ
    stand : StandAll prefix depth s parts deep rest
    split : s ≡ front ++ rest
    no_more : (p : Part) (more : List ℕ) → IsPartAt prefix deep rest p more → ⊥

  -- what stands behind a letter ends where the rest begins
  behind_front : (typ : TtlvType) (after shown rest : List ℕ) → IsPartTail typ after shown rest → (f : List ℕ) × (after ≡ f ++ rest)
  behind_front Enumeration after shown rest h = (shown ++ (58 ∷ []), h.2 ∙ sym (append_assoc shown (58 ∷ []) rest))
  behind_front typ after shown rest h = ([], sym h.1)

  -- so does a part
  part_front : (depth : ℕ) (s : List ℕ) (p : Part) (rest : List ℕ) → IsPartAt prefix depth s p rest → (f : List ℕ) × (s ≡ f ++ rest)
  part_front depth s close_part rest h = (93 ∷ [], h.1)
  part_front depth s (item_part tag typ shown) rest h =
      let n = prefix_len is_hex s in
      let f = behind_front typ h.0 shown rest h.3 in (
        take n s ++ (letter typ ∷ f.0),
        sym (take-append-drop n s) ∙ ap (λ (t : List ℕ). take n s ++ t) (h.2 ∙ ap (λ (t : List ℕ). letter typ ∷ t) f.1)
            ∙ sym (append_assoc (take n s) (letter typ ∷ f.0) rest),
      )

  beginning : ℕ → ℕ → List ℕ
  beginning depth tag = []

  -- one part more in front
  more_parts : (depth : ℕ) (s w : List ℕ) (d : ℕ) (r : List ℕ) → StepIs beginning prefix depth s (reads_on w d r) → Longest d r → Longest depth s
  more_parts depth s w d r t k =
      let f = part_front depth s t.0 r t.1 in
      record {
        parts = t.0 ∷ k.parts;
        deep = k.deep;
        front = f.0 ++ k.front;
        rest = k.rest;
        stand = (r, t.1, subst (λ (n : ℕ). StandAll prefix n r k.parts k.deep k.rest) t.2 k.stand);
        split = f.1 ∙ ap (λ (q : List ℕ). f.0 ++ q) k.split ∙ sym (append_assoc f.0 k.front k.rest);
        no_more = k.no_more;
      }

  longest : (most depth : ℕ) (s : List ℕ) → length s < most → Longest depth s
  longest zero depth s lt = absurd (omega arith)
  longest (suc most) depth s lt = by (step beginning prefix depth s) (step_is beginning prefix depth s) (step_shorter beginning prefix depth s)
      (longest most)
    where
      by : (t : Step) → StepIs beginning prefix depth s t → Shorter beginning depth s t → ((d : ℕ) (r : List ℕ) → length r < most → Longest d r)
          → Longest depth s
      by (reads_on w d r) t sh more = more_parts depth s w d r t (more d r (omega (arith, sh.0)))
      by (stops_with w) t sh more = record { parts = []; deep = depth; front = []; rest = s; stand = (refl, refl); split = refl; no_more = t.0 }

  -- a text is whole, or it stops being a diagnostic somewhere
  breaks_at : (at : ℕ) (line : List ℕ) (k : Longest 0 (trim_end line)) (kind : BackFaultKind) → IsWrong kind k.deep (length k.rest)
      → BreaksText prefix at line (record { offset = at + length k.front; kind = kind })
  breaks_at at line k kind wrong =
      let left : k.rest ≡ drop (length k.front) (trim_end line) = sym (ap (drop (length k.front)) k.split ∙ drop-append_seam k.front k.rest) in
      record {
        place = length k.front;
        stops = record {
          parts = k.parts;
          deep = k.deep;
          within = omega (arith, ap length k.split, length-append k.front k.rest);
          stand = subst (λ (q : List ℕ). StandAll prefix 0 (trim_end line) k.parts k.deep q) left k.stand;
          no_more = subst (λ (q : List ℕ). (p : Part) (more : List ℕ) → IsPartAt prefix k.deep q p more → ⊥) left k.no_more;
          wrong = subst (λ (q : List ℕ). IsWrong kind k.deep (length q)) left wrong;
        };
        offset = refl;
      }

  text_tried : (at : ℕ) (line : List ℕ) → (o : Option BackFault) × TriesText prefix at line o
  text_tried at line = by k.deep k.rest refl refl
    where
      k : Longest 0 (trim_end line)
      k = longest (suc (length (trim_end line))) 0 (trim_end line) (omega arith)

      by : (deep : ℕ) (rest : List ℕ) → k.deep ≡ deep → k.rest ≡ rest → (o : Option BackFault) × TriesText prefix at line o
      by zero [] d r = let stand = rw (d, r) at k.stand in (None, (k.parts, stand))
      by (suc deep) [] d r = (Some (record { offset = at + length k.front; kind = LeftOpen }), breaks_at at line k LeftOpen (ap length r, omega (arith, d)))
      by deep (c ∷ rest) d r = (Some (record { offset = at + length k.front; kind = NoPart }), breaks_at at line k NoPart (omega (arith, ap length r)))

  line_tried : (at : ℕ) (line : List ℕ) → (o : Option BackFault) × Tries prefix at line o
  line_tried at line = text_tried (at + mark_length line) (body line)

  first_by : (at : ℕ) (line : List ℕ) (more : List (List ℕ)) (o : Option BackFault) → Tries prefix at line o
      → ((next : ℕ) → (f : Option BackFault) × FirstBreak prefix next more f) → (f : Option BackFault) × FirstBreak prefix at (line ∷ more) f
  first_by at line more None tries others = let k = others (at + length line + 1) in (k.0, whole_here at (at + length line + 1) line more k.0 tries refl k.1)
  first_by at line more (Some f) tries others = (Some f, breaks_here at line more f tries)

  -- the first line that is not whole, if there is one
  pub first_break : (at : ℕ) (lines : List (List ℕ)) → (f : Option BackFault) × FirstBreak prefix at lines f
  first_break at [] = (None, all_whole at)
  first_break at (line ∷ more) = let t = line_tried at line in first_by at line more t.0 t.1 (λ next. first_break next more)
