-- Where the loop that reads a diagnostic ends.
use Rattle.std.proofs.Common.{◌≡◌, ℕ, ◌-◌, List, [], ◌∷◌, ◌++◌, length, take, drop, refl, sym, ap, subst, ◌∙◌, arith, append_assoc, append-nil, length-append}
use Rattle.std.specs.List.{prefix_len}
use Rattle.std.proofs.{lemmas.List.take-append-drop, Math.Seq.drop-append_seam}
use Rattle.kmip_ttlv_types.specs.declared.typ.TtlvType.{TtlvType, TheVariants.Enumeration}
use Rattle.kmip_ttlv_util.specs.Letters.{letter, is_hex}
use Rattle.kmip_ttlv_util.specs.Undiag.{reads_on, stops_with, step}
use Rattle.kmip_ttlv_util.specs.ReadBack.{close_part, item_part, Part, IsPartTail, IsPartAt, StandAll, depth_behind, part_line, part_lines, EndsAt}
use Rattle.kmip_ttlv_util.proofs.Longest.{StepIs, step_is}

-- the parts before the rest of a text, and their lines
pub record Standing (beginning : ℕ → ℕ → List ℕ) (prefix s out : List ℕ) (depth : ℕ) (rest : List ℕ) : Type 0 where
  pub parts : List Part
  pub front : List ℕ
  pub stand : StandAll prefix 0 s parts depth rest
  pub lines : out ≡ part_lines beginning 0 parts
  pub split : s ≡ front ++ rest

module _ (beginning : ℕ → ℕ → List ℕ) (prefix : List ℕ) where
  -- what follows a letter ends where the rest begins
  behind_front : (typ : TtlvType) (after shown rest : List ℕ) → IsPartTail typ after shown rest → (f : List ℕ) × (after ≡ f ++ rest)
  behind_front Enumeration after shown rest h = (shown ++ (58 ∷ []), h.2 ∙ sym (append_assoc shown (58 ∷ []) rest))
  behind_front typ after shown rest h = ([], sym h.1)

  -- so does a part
  part_front : (depth : ℕ) (s : List ℕ) (p : Part) (rest : List ℕ) → IsPartAt prefix depth s p rest → (f : List ℕ) × (s ≡ f ++ rest)
  part_front depth s close_part rest h = (93 ∷ [], h.1)
  part_front depth s (item_part tag typ shown) rest h =
      let n = prefix_len is_hex s in
      let f = behind_front typ h.0 shown rest h.3 in (
        take n s ++ (letter typ ∷ f.0),
        sym (take-append-drop n s) ∙ ap (λ (t : List ℕ). take n s ++ t) (h.2 ∙ ap (λ (t : List ℕ). letter typ ∷ t) f.1)
            ∙ sym (append_assoc (take n s) (letter typ ∷ f.0) rest),
      )

  -- one more part after others
  all_more : (ps : List Part) (depth : ℕ) (s : List ℕ) (deep : ℕ) (rest : List ℕ) → StandAll prefix depth s ps deep rest → (p : Part) (r : List ℕ)
      → IsPartAt prefix deep rest p r → StandAll prefix depth s (ps ++ (p ∷ [])) (depth_behind deep p) r
  all_more [] depth s deep rest h p r here = (r, rw (← h.1, ← h.0) here, (ap (λ (d : ℕ). depth_behind d p) h.0, refl))
  all_more (q ∷ qs) depth s deep rest h p r here = (h.0, h.1, all_more qs (depth_behind depth q) h.0 deep rest h.2 p r here)

  -- and its line after theirs
  lines_more : (ps : List Part) (depth : ℕ) (s : List ℕ) (deep : ℕ) (rest : List ℕ) → StandAll prefix depth s ps deep rest → (p : Part)
      → part_lines beginning depth (ps ++ (p ∷ [])) ≡ part_lines beginning depth ps ++ part_line beginning deep p
  lines_more [] depth s deep rest h p = append-nil (part_line beginning depth p) ∙ ap (λ (d : ℕ). part_line beginning d p) (sym h.0)
  lines_more (q ∷ qs) depth s deep rest h p =
      rw (lines_more qs (depth_behind depth q) h.0 deep rest h.2 p) (sym (append_assoc (part_line beginning depth q) _ _))

module _ {beginning : ℕ → ℕ → List ℕ} {prefix s : List ℕ} where
  -- before the first part
  pub standing_start : Standing beginning prefix s [] 0 s
  standing_start = record { parts = []; front = []; stand = (refl, refl); lines = refl; split = refl }

  -- a part is read
  pub standing_goes : {out w rest r : List ℕ} {depth d : ℕ} → Standing beginning prefix s out depth rest
      → step beginning prefix depth rest ≡ reads_on w d r → Standing beginning prefix s (out ++ w) d r
  standing_goes {out} {w} {rest} {r} {depth} {d} k is =
      let t = subst (StepIs beginning prefix depth rest) is (step_is beginning prefix depth rest) in
      let f = part_front beginning prefix depth rest t.0 r t.1 in
      record {
        parts = k.parts ++ (t.0 ∷ []);
        front = k.front ++ f.0;
        stand = subst (λ (n : ℕ). StandAll prefix 0 s (k.parts ++ (t.0 ∷ [])) n r) (sym t.2)
            (all_more beginning prefix k.parts 0 s depth rest k.stand t.0 r t.1);
        lines = ap (λ (o : List ℕ). o ++ w) k.lines ∙ ap (λ (l : List ℕ). part_lines beginning 0 k.parts ++ l) t.3
            ∙ sym (lines_more beginning prefix k.parts 0 s depth rest k.stand t.0);
        split = k.split ∙ ap (λ (q : List ℕ). k.front ++ q) f.1 ∙ sym (append_assoc k.front f.0 r);
      }

  -- there is no whole part
  pub standing_ends : {out w rest : List ℕ} {depth used : ℕ} → Standing beginning prefix s out depth rest
      → step beginning prefix depth rest ≡ stops_with w → used ≡ length s - length rest → EndsAt beginning prefix s (out ++ w) used depth
  standing_ends {out} {w} {rest} {depth} {used} k is count =
      let t = subst (StepIs beginning prefix depth rest) is (step_is beginning prefix depth rest) in
      let len : used ≡ length k.front = omega (arith, count, ap length k.split, length-append k.front rest) in
      let at : drop used s ≡ rest = ap (λ (n : ℕ). drop n s) len ∙ ap (drop (length k.front)) k.split ∙ drop-append_seam k.front rest in
      record {
        parts = k.parts;
        within = omega (arith, count);
        stand = rw at k.stand;
        no_more = rw at t.0;
        written = rw (k.lines, t.1, at) refl;
      }
