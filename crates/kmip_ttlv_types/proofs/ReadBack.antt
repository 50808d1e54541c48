-- A value that was written is read back.
use Rattle.std.proofs.Common.{◌≡◌, ◌≢◌, ℕ, ◌+◌, ◌^◌, ◌<◌, List, [], ◌∷◌, ◌++◌, Bool, true, false, Option, Some, None, Result, Ok, Err, IfSome, length, take}
use Rattle.std.proofs.Common.{drop, replicate, sym, ap, ◌∙◌, subst, arith, refl, le_refl, length-append, take_all, append_assoc, inl, inr, Global}
use Rattle.std.proofs.lemmas.List.{take-append-le, length-replicate}
use Rattle.std.specs.{Prelude.MatchResult, Int.w32, Int.to_be_bytes}
use Rattle.kmip_ttlv_types.specs.{declared.error.Error.Error, declared.typ.TtlvType.TtlvType, ItemTypes.pad_len, ItemTypes.fixed_length, Leaves.is_valid}
use Rattle.kmip_ttlv_types.specs.declared.typ.TtlvType.TheVariants.{Structure, Integer, LongInteger, BigInteger, Enumeration, Boolean, TextString, ByteString}
use Rattle.kmip_ttlv_types.specs.declared.typ.TtlvType.TheVariants.{DateTime, Interval}
use Rattle.kmip_ttlv_types.specs.Laws.{FailsToRead, IsReadBack, ReadsWholeLeaves}
use Rattle.kmip_ttlv_types.specs.Primitives.{content_of, length_and_content, CanHaveLength, ReadsLeaf, ConsumesLeaf, IsCut, stated_length, stated_content}
use Rattle.kmip_ttlv_types.proofs.LeafReading.{stated, length-valid}
use Rattle.kmip_ttlv_types.specs.declared.error.Error.TheVariants as errors

-- the content that is written is valid
content-valid : (typ : TtlvType) (bytes : List ℕ) → is_valid typ bytes ≡ true → is_valid typ (content_of typ bytes) ≡ true
content-valid Structure bytes h = h
content-valid Integer bytes h = h
content-valid LongInteger bytes h = h
content-valid BigInteger bytes h = refl
content-valid Enumeration bytes h = h
content-valid Boolean bytes h = h
content-valid TextString bytes h = h
content-valid ByteString bytes h = h
content-valid DateTime bytes h = h
content-valid Interval bytes h = h

true_not_false : true ≡ false → ⊥
true_not_false e = cc

-- two parts that are each of one length, in front of others, are the same
same_front : (xs ys zs ws : List ℕ) → length xs ≡ length ys → xs ++ zs ≡ ys ++ ws → xs ≡ ys
same_front xs ys zs ws long e = sym (take-append-le (length xs) xs zs (le_refl _) ∙ take_all (length xs) xs (le_refl _))
    ∙ ap (take (length xs)) e ∙ ap (λ n. take n (ys ++ ws)) long ∙ take-append-le (length ys) ys ws (le_refl _) ∙ take_all (length ys) ys (le_refl _)

same_rest : (xs ys zs ws : List ℕ) → length xs ≡ length ys → xs ++ zs ≡ ys ++ ws → zs ≡ ws
same_rest [] [] zs ws long e = e
same_rest [] (y ∷ ys) zs ws long e = absurd (omega (arith, long))
same_rest (x ∷ xs) [] zs ws long e = absurd (omega (arith, long))
same_rest (x ∷ xs) (y ∷ ys) zs ws long e = same_rest xs ys zs ws (omega (arith, long)) (ap (drop 1) e)

-- the length that was written is stated, and the content follows it
module _ (content zeros rest : List ℕ) (low : length content < 2 ^ 32) where
  n_is : stated_length (((to_be_bytes w32 (length content) ++ content) ++ zeros) ++ rest) ≡ length content
  n_is = stated (length content) ((content ++ zeros) ++ rest) low

  content_is : stated_content (((to_be_bytes w32 (length content) ++ content) ++ zeros) ++ rest) ≡ content
  content_is =
      ap (λ n. take n ((content ++ zeros) ++ rest)) n_is ∙ ap (take (length content)) (append_assoc content zeros rest)
      ∙ take-append-le (length content) content (zeros ++ rest) (le_refl _) ∙ take_all (length content) content (le_refl _)

wrong_length : (typ : TtlvType) (n expected actual : ℕ) → CanHaveLength typ n → n ≡ actual → fixed_length typ ≡ Some expected → (actual ≢ expected) → ⊥
wrong_length typ n expected actual can same fixed differs =
    let is : n ≡ expected = subst (λ (o : Option ℕ). IfSome o (λ k. n ≡ k)) fixed can in differs (sym same ∙ is)

module _ {T : Type 0} (typ : TtlvType) (bytes_of : T → List ℕ) (tm : Bool) (content zeros rest : List ℕ) (low : length content < 2 ^ 32)
    (padded : length zeros ≡ pad_len (length content)) (valid : is_valid typ content ≡ true) where
  abbrev pub there : List ℕ
  there = ((to_be_bytes w32 (length content) ++ content) ++ zeros) ++ rest

  value_there : (w : T) (ys : List ℕ) → ConsumesLeaf (Some there) (Some ys) (bytes_of w) → (bytes_of w ≡ content) × (ys ≡ rest)
  unfolding length_and_content
  value_there w ys leaf =
      let same_length : length (bytes_of w) ≡ length content =
      sym (stated (length (bytes_of w)) ((bytes_of w ++ leaf.pad) ++ ys) leaf.fits) ∙ ap stated_length (sym leaf.consumes) ∙ n_is content zeros rest low in
      let parts : content ++ (zeros ++ rest) ≡ bytes_of w ++ (leaf.pad ++ ys) =
      sym (append_assoc content zeros rest) ∙ ap (drop 4) leaf.consumes ∙ append_assoc (bytes_of w) leaf.pad ys in
      let pads : zeros ++ rest ≡ leaf.pad ++ ys = same_rest content (bytes_of w) _ _ (sym same_length) parts in (
        sym (same_front content (bytes_of w) _ _ (sym same_length) parts),
        sym (same_rest zeros leaf.pad rest ys (padded ∙ ap pad_len (sym same_length) ∙ sym leaf.pad_length) pads),
      )

  all_there : length there ≡ 4 + length content + pad_len (length content) + length rest
  all_there = omega (arith, padded, length-append content zeros, length-append (content ++ zeros) rest)

  not_cut : IsCut typ there → ⊥
  not_cut (inl short) = omega (arith, short, all_there)
  not_cut (inr (can, inl short)) = omega (arith, short, all_there, n_is content zeros rest low)
  not_cut (inr (can, inr (good, short))) =
      let low_by : length there < 4 + length content + pad_len (length content) =
      subst (λ n. length there < 4 + n + pad_len n) (n_is content zeros rest low) short in
      omega (arith, low_by, all_there)

  pub outcome : (cf : Bool) (new : Option (List ℕ)) (result : Result T (Error Global)) → ReadsLeaf typ bytes_of tm cf (Some there) new result
      → MatchResult result (λ w. (bytes_of w ≡ content) × (new ≡ Some rest)) (FailsToRead tm cf content)
  unfolding length_and_content
  outcome cf None (Ok w) (leaf, good) = absurd leaf.consumes
  outcome cf (Some ys) (Ok w) (leaf, good) = let h = value_there w ys leaf in (h.0, ap Some h.1)
  outcome cf new (Err (errors.InvalidTtlvValueLength expected actual t)) (same, (long, is, fixed, differs), within) =
      absurd (wrong_length typ (length content) expected actual (length-valid typ content valid) (sym (n_is content zeros rest low) ∙ is) fixed differs)
  outcome cf new (Err (errors.InvalidTtlvValue t)) (same, (can, enough, invalid), within) =
      let bad : is_valid typ content ≡ false = ap (is_valid typ) (sym (content_is content zeros rest low)) ∙ invalid in
      absurd (true_not_false (sym valid ∙ bad))
  outcome cf new (Err (errors.IoError e)) (inl fails, within) = fails
  outcome cf new (Err (errors.IoError e)) (inr (eof, cut), within) = absurd (not_cut cut)
  outcome cf new (Err errors.OutOfMemory) (takes, some, within) = (takes, omega (arith, some.1, n_is content zeros rest low))
  outcome cf new (Err (errors.InvalidTtlvTag text)) h = absurd h
  outcome cf new (Err (errors.UnexpectedTtlvField x y)) h = absurd h
  outcome cf new (Err (errors.UnsupportedTtlvType x)) h = absurd h
  outcome cf new (Err (errors.InvalidTtlvType x)) h = absurd h
  outcome cf new (Err errors.InvalidStateMachineOperation) h = absurd h
  outcome cf new (Err errors.LengthOverflow) h = absurd h

-- each value is read back
pub read_back : {T : Type 0} (typ : TtlvType) (bytes_of : T → List ℕ) (tm : Bool) (v : T) → is_valid typ (bytes_of v) ≡ true → IsReadBack typ bytes_of tm v
unfolding length_and_content
read_back typ bytes_of tm v valid low cf rest new result =
    let content : List ℕ = content_of typ (bytes_of v) in
    let zero : ℕ = 0 in
    outcome typ bytes_of tm content (replicate (pad_len (length content)) zero) rest low (length-replicate (pad_len (length content)) zero)
    (content-valid typ (bytes_of v) valid) cf new result

-- each whole leaf is read
pub whole_leaves : {T : Type 0} (typ : TtlvType) (bytes_of : T → List ℕ) (tm : Bool) → ReadsWholeLeaves typ bytes_of tm
unfolding length_and_content
whole_leaves typ bytes_of tm content pad rest low padded valid cf new result = outcome typ bytes_of tm content pad rest low padded valid cf new result
