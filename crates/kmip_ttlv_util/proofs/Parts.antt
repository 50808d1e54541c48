-- The next part of a text that is read back.
use Rattle.std.proofs.Common.{◌≡◌, ◌≢◌, ℕ, zero, suc, ◌-◌, ◌<◌, Bool, true, false, cond, eqb, List, [], ◌∷◌, length, drop, Option, Some, None, refl, ap, ◌∙◌}
use Rattle.std.proofs.Common.{arith}
use Rattle.std.specs.List.{prefix_len}
use Rattle.std.proofs.lemmas.Bool.{eqb-true}
use Rattle.kmip_ttlv_types.specs.declared.typ.TtlvType.{TtlvType, TheVariants.Enumeration}
use Rattle.kmip_ttlv_util.specs.{Letters.is_hex, Letters.type_of_letter, Lines.line, Lines.typ_part, ReadBack.tag_in_front}
use Rattle.kmip_ttlv_util.specs.Undiag.{with_rest, front_type, front_value, Step, reads_on, stops_with, close_step, data_step, type_step, letter_step, tag_step}
use Rattle.kmip_ttlv_util.specs.Undiag.{step}

module _ (beginning : ℕ → ℕ → List ℕ) where
  -- a value and what follows it, or none
  abbrev pick : Bool → List ℕ × List ℕ → Option (List ℕ × List ℕ)
  pick b p = cond b (Some p) None

  -- a value was found
  chosen_value : (b : Bool) (depth tag : ℕ) (x y v r : List ℕ) → pick b (x, y) ≡ Some (v, r)
      → cond b (reads_on (line beginning depth tag Enumeration x) depth y) (stops_with (typ_part beginning depth tag Enumeration)) ≡ reads_on
      (line beginning depth tag Enumeration v) depth r
  chosen_value true depth tag x y v r e =
      let k : ◌≡◌ {A = List ℕ × List ℕ} (x, y) (v, r) = cc in
      ap (λ (p : List ℕ × List ℕ). reads_on (line beginning depth tag Enumeration p.0) depth p.1) k
  chosen_value false depth tag x y v r e = absurd cc

  -- none was found
  chosen_none : (b : Bool) (depth tag : ℕ) (x y : List ℕ) → pick b (x, y) ≡ None → cond b (reads_on (line beginning depth tag Enumeration x) depth y)
      (stops_with (typ_part beginning depth tag Enumeration)) ≡ stops_with (typ_part beginning depth tag Enumeration)
  chosen_none true depth tag x y e = absurd cc
  chosen_none false depth tag x y e = refl

  -- an enumeration
  pub data_value : (s v r : List ℕ) (depth tag : ℕ) (typ : TtlvType) → typ ≡ Enumeration → length s ≢ 0 → front_value s ≡ Some (v, r)
      → data_step beginning depth tag typ s ≡ reads_on (line beginning depth tag typ v) depth r
  unfolding front_value
  data_value [] v r depth tag typ is some value = absurd (some refl)
  data_value (c ∷ s) v r depth tag typ is some value = rw is (chosen_value _ depth tag _ _ v r value)

  -- an enumeration without a value
  pub data_no_value : (s : List ℕ) (depth tag : ℕ) (typ : TtlvType) → typ ≡ Enumeration → length s ≢ 0 → front_value s ≡ None
      → data_step beginning depth tag typ s ≡ stops_with (typ_part beginning depth tag typ)
  unfolding front_value
  data_no_value [] depth tag typ is some value = absurd (some refl)
  data_no_value (c ∷ s) depth tag typ is some value = rw is (chosen_none _ depth tag _ _ value)

  -- a leading `]`
  close_is : (prefix s r : List ℕ) (depth : ℕ) → s ≡ 93 ∷ r → step beginning prefix depth s ≡ close_step depth r
  unfolding step
  close_is prefix s r depth e = rw e refl

  -- a `]` within a structure
  pub step_close : (prefix s r : List ℕ) (depth : ℕ) → s ≡ 93 ∷ r → 0 < depth → step beginning prefix depth s ≡ reads_on [] (depth - 1) r
  step_close prefix s r zero e z = absurd (omega (arith, z))
  step_close prefix s r (suc depth) e z = close_is prefix s r (suc depth) e ∙ ap (λ (d : ℕ). reads_on [] d r) (omega arith)

  -- a tag, or none
  pick_some : (b : Bool) (o : Option ℕ) (tag : ℕ) (t : Step) (f : Option ℕ → Step) → cond b None o ≡ Some tag → cond b t (f o) ≡ f (Some tag)
  pick_some true o tag t f e = absurd cc
  pick_some false o tag t f e = ap f e

  pick_none : (b : Bool) (o : Option ℕ) (t : Step) (f : Option ℕ → Step) → cond b None o ≡ None → (b ≡ true → t ≡ f None) → cond b t (f o) ≡ f None
  pick_none true o t f e same = same refl
  pick_none false o t f e same = ap f e

  -- a leading tag
  pub step_tag : (prefix s : List ℕ) (depth tag : ℕ) → tag_in_front prefix s ≡ Some tag → step beginning prefix depth s ≡ letter_step beginning depth tag
      (drop (prefix_len is_hex s) s)
  unfolding step
  step_tag prefix [] depth tag e = absurd cc
  step_tag prefix (c ∷ s) depth tag e =
      pick_some (eqb c 93) _ tag (close_step depth s) (tag_step beginning depth (drop (prefix_len is_hex (c ∷ s)) (c ∷ s))) e

  -- no tag, and no close of an open structure
  pub step_no_tag : (prefix s : List ℕ) (depth : ℕ) → tag_in_front prefix s ≡ None → ((rest : List ℕ) → s ≡ 93 ∷ rest → depth ≡ 0)
      → step beginning prefix depth s ≡ stops_with []
  unfolding step
  step_no_tag prefix [] depth e shut = refl
  step_no_tag prefix (c ∷ s) depth e shut =
      pick_none (eqb c 93) _ (close_step depth s) (tag_step beginning depth (drop (prefix_len is_hex (c ∷ s)) (c ∷ s))) e
      (λ h. ap (λ (d : ℕ). close_step d s) (shut s (ap (λ (a : ℕ). a ∷ s) (eqb-true c 93 h))))

  -- a letter after the tag
  pub letter_is : (depth tag : ℕ) (s r : List ℕ) (typ : TtlvType) → front_type s ≡ Some (typ, r)
      → letter_step beginning depth tag s ≡ data_step beginning depth tag typ r
  letter_is depth tag [] r typ e = absurd cc
  letter_is depth tag (c ∷ s) r typ e = by (type_of_letter c) e
    where
      by : (o : Option TtlvType) → with_rest s o ≡ Some (typ, r) → type_step beginning depth tag s o ≡ data_step beginning depth tag typ r
      by None e = absurd cc
      by (Some t) e = let k : ◌≡◌ {A = TtlvType × List ℕ} (t, s) (typ, r) = cc in ap (λ (p : TtlvType × List ℕ). data_step beginning depth tag p.0 p.1) k

  -- no letter
  pub letter_none : (depth tag : ℕ) (s : List ℕ) → front_type s ≡ None → letter_step beginning depth tag s ≡ stops_with (beginning depth tag)
  letter_none depth tag [] e = refl
  letter_none depth tag (c ∷ s) e = by (type_of_letter c) e
    where
      by : (o : Option TtlvType) → with_rest s o ≡ None → type_step beginning depth tag s o ≡ stops_with (beginning depth tag)
      by None e = refl
      by (Some t) e = absurd cc
