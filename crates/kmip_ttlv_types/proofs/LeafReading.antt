-- A leaf's length, content and padding, read one after the other.
use Rattle.std.proofs.Common.{◌≡◌, ◌≢◌, ℕ, ◌+◌, ◌^◌, ◌<◌, ◌≤◌, List, [], ◌++◌, Bool, true, false, Option, None, Some, Ok, Err, IfSome, length, take, sym, ap}
use Rattle.std.proofs.Common.{◌∙◌, subst, arith, refl, le_refl, length-append, take_all, inl, inr, ◌⊎◌, cond}
use Rattle.std.proofs.{lemmas.Bool.eqb-true, lemmas.List.take-append-le, lemmas.Nat.from_be_bytes-to_be_bytes_4, KnownBytes.Consumes-trans}
use Rattle.std.specs.{Int.w32, Int.to_be_bytes, IoError.error_kind, Prelude.IsTrue, Io.KnownBytes.Consumes, Io.KnownBytes.Keeps}
use Rattle.std.specs.{declared.io.Error.Error as IoFault, declared.io.ErrorKind.TheVariants.UnexpectedEof}
use Rattle.kmip_ttlv_types.specs.{declared.error.Error.Error, declared.typ.TtlvType.TtlvType, ItemTypes.pad_len, ItemTypes.fixed_length, Leaves.is_valid}
use Rattle.kmip_ttlv_types.specs.{Headers.ReadsNumber}
use Rattle.kmip_ttlv_types.specs.declared.typ.TtlvType.TheVariants.{Structure, Integer, LongInteger, BigInteger, Enumeration, Boolean, TextString, ByteString}
use Rattle.kmip_ttlv_types.specs.declared.typ.TtlvType.TheVariants.{DateTime, Interval}
use Rattle.kmip_ttlv_types.specs.Streams.{ConsumesUpTo, IsShort, Lacks}
use Rattle.kmip_ttlv_types.specs.Primitives.{CanHaveLength, Skips, ReadsValue, ReadsLeaf, HasContent, StaysWithin, stated_length, stated_content, IsCut}
use Rattle.kmip_ttlv_types.specs.Primitives.{HasWrongLength, HasWrongContent, length_and_content}
use Rattle.kmip_ttlv_types.proofs.Taken.{ConsumesUpTo-after}
use Rattle.kmip_ttlv_types.specs.declared.error.Error.TheVariants as errors

-- a fact about known bytes, from the part that was consumed and the part that is left
front_of : (a b : Option (List ℕ)) (bs : List ℕ) (P : List ℕ → Type 0) → Consumes a b bs → ((ys : List ℕ) → b ≡ Some ys → P (bs ++ ys)) → IfSome a P
front_of None b bs P taken holds = tt
front_of (Some x) None bs P taken holds = absurd taken
front_of (Some x) (Some y) bs P taken holds = subst P (sym taken) (holds y refl)

if_known : (b : Option (List ℕ)) (P : List ℕ → Type 0) (ys : List ℕ) → b ≡ Some ys → IfSome b P → P ys
if_known b P ys is holds = let h : IfSome (Some ys) P = subst (λ (o : Option (List ℕ)). IfSome o P) is holds in h

-- the length that was written is the one that is stated
pub stated : (n : ℕ) (ys : List ℕ) → n < 2 ^ 32 → stated_length (to_be_bytes w32 n ++ ys) ≡ n
stated n ys low = from_be_bytes-to_be_bytes_4 n low

both_true : (b c : Bool) → cond b c false ≡ true → b ≡ true
both_true true c h = refl
both_true false c h = h

-- a valid content has a length that its type can have
pub length-valid : (typ : TtlvType) (content : List ℕ) → is_valid typ content ≡ true → CanHaveLength typ (length content)
length-valid Structure content h = tt
length-valid Integer content h = eqb-true _ _ h
length-valid LongInteger content h = eqb-true _ _ h
length-valid BigInteger content h = tt
length-valid Enumeration content h = eqb-true _ _ h
length-valid Boolean content h = eqb-true _ _ (both_true _ _ h)
length-valid TextString content h = tt
length-valid ByteString content h = tt
length-valid DateTime content h = eqb-true _ _ h
length-valid Interval content h = eqb-true _ _ h

Consumes-nothing : (a b : Option (List ℕ)) → Keeps a b → Consumes a b []
Consumes-nothing None b keeps = tt
Consumes-nothing (Some x) None keeps = absurd keeps
Consumes-nothing (Some x) (Some y) keeps = sym keeps

nothing_taken : (a b : Option (List ℕ)) → Keeps a b → ConsumesUpTo a b 0
nothing_taken a b keeps = record { bytes = []; within = le_refl 0; consumes = Consumes-nothing a b keeps }

-- after the length nothing beyond content and padding was consumed
pub within : (a b c : Option (List ℕ)) (n m : ℕ) → n < 2 ^ 32 → Consumes a b (to_be_bytes w32 n) → m ≤ n + pad_len n → ConsumesUpTo b c m → StaysWithin a c
within a b c n m low taken most more =
    front_of a b (to_be_bytes w32 n) (λ xs. ConsumesUpTo a c (4 + stated_length xs + pad_len (stated_length xs))) taken (λ ys is.
    subst (λ k. ConsumesUpTo a c (4 + k + pad_len k)) (sym (stated n ys low)) (ConsumesUpTo-after a b c (to_be_bytes w32 n) m _ taken more
    (omega (arith, most))))

-- the length that was read is there, and isn't zero
has_content : (a b : Option (List ℕ)) (n : ℕ) → n < 2 ^ 32 → Consumes a b (to_be_bytes w32 n) → 0 < n → IfSome a HasContent
has_content a b n low taken some = front_of a b (to_be_bytes w32 n) HasContent taken (λ ys is. (omega arith, omega (arith, some, stated n ys low)))

-- the length itself didn't come
within_length : (a b : Option (List ℕ)) → ConsumesUpTo a b 4 → StaysWithin a b
within_length None b upto = tt
within_length (Some x) b upto = record { bytes = upto.bytes; within = omega (arith, upto.within); consumes = upto.consumes }

module _ (typ : TtlvType) (a b : Option (List ℕ)) (n : ℕ) (low : n < 2 ^ 32) (taken : Consumes a b (to_be_bytes w32 n)) where
  -- the content didn't come
  cut_in_content : CanHaveLength typ n → IsShort b n → IfSome a (IsCut typ)
  cut_in_content can short = front_of a b (to_be_bytes w32 n) (IsCut typ) taken (λ ys is.
      let few : length ys < n = if_known b (λ l. length l < n) ys is short in
      let eq = stated n ys low in
      inr (subst (CanHaveLength typ) (sym eq) can, inl (omega (arith, few, eq))))

  wrong_length : (expected : ℕ) → fixed_length typ ≡ Some expected → (n ≢ expected) → IfSome a (HasWrongLength typ expected n)
  wrong_length expected fixed differs = front_of a b (to_be_bytes w32 n) (HasWrongLength typ expected n) taken (λ ys is.
      (omega arith, stated n ys low, fixed, differs))

module _ (typ : TtlvType) (a b c : Option (List ℕ)) (n : ℕ) (low : n < 2 ^ 32) (taken : Consumes a b (to_be_bytes w32 n))
    (content : List ℕ) (read : Consumes b c content) (long : length content ≡ n) where
  all_taken : Consumes a c (to_be_bytes w32 n ++ content)
  all_taken = Consumes-trans a b c _ _ taken read

  same_content : (zs : List ℕ) → stated_content ((to_be_bytes w32 n ++ content) ++ zs) ≡ content
  same_content zs =
      ap (λ k. take k (content ++ zs)) (stated n (content ++ zs) low ∙ sym long) ∙ take-append-le (length content) content zs (le_refl _)
      ∙ take_all (length content) content (le_refl _)

  wrong_content : CanHaveLength typ n → is_valid typ content ≡ false → IfSome a (HasWrongContent typ)
  wrong_content can invalid = front_of a c (to_be_bytes w32 n ++ content) (HasWrongContent typ) all_taken (λ zs is.
      let eq = stated n (content ++ zs) low in
      (subst (CanHaveLength typ) (sym eq) can, omega (arith, eq, long, length-append content zs), ap (is_valid typ) (same_content zs) ∙ invalid))

  -- the padding didn't come
  cut_in_padding : is_valid typ content ≡ true → IsShort c (pad_len n) → IfSome a (IsCut typ)
  cut_in_padding valid short = front_of a c (to_be_bytes w32 n ++ content) (IsCut typ) all_taken (λ zs is.
      let few : length zs < pad_len n = if_known c (λ l. length l < pad_len n) zs is short in
      let eq = stated n (content ++ zs) low in
      inr (
        subst (CanHaveLength typ) (long ∙ sym eq) (length-valid typ content valid),
        inr (
          ap (is_valid typ) (same_content zs) ∙ valid,
          subst (λ k. length ((to_be_bytes w32 n ++ content) ++ zs) < 4 + k + pad_len k) (sym eq) (omega (arith, few, long, length-append content zs)),
        ),
      ))

module _ (typ : TtlvType) (cf : Bool) where
  content_lacks : (a b : Option (List ℕ)) (n : ℕ) (e : IoFault) → n < 2 ^ 32 → Consumes a b (to_be_bytes w32 n) → CanHaveLength typ n → Lacks cf b n e
      → IsTrue cf ⊎ ((error_kind e ≡ UnexpectedEof) × IfSome a (IsCut typ))
  content_lacks a b n e low taken can (inl fails) = inl fails
  content_lacks a b n e low taken can (inr (eof, short)) = inr (eof, cut_in_content typ a b n low taken can short)

  padding_lacks : (a b c : Option (List ℕ)) (n : ℕ) (content : List ℕ) (e : IoFault) → n < 2 ^ 32 → Consumes a b (to_be_bytes w32 n) → Consumes b c content
      → length content ≡ n
      → is_valid typ content ≡ true → Lacks cf c (pad_len n) e → IsTrue cf ⊎ ((error_kind e ≡ UnexpectedEof) × IfSome a (IsCut typ))
  padding_lacks a b c n content e low taken read long valid (inl fails) = inl fails
  padding_lacks a b c n content e low taken read long valid (inr (eof, short)) = inr (eof, cut_in_padding typ a b c n low taken content read long valid short)

  length_lacks : (a : Option (List ℕ)) (e : IoFault) → Lacks cf a 4 e → IsTrue cf ⊎ ((error_kind e ≡ UnexpectedEof) × IfSome a (IsCut typ))
  length_lacks a e (inl fails) = inl fails
  length_lacks None e (inr (eof, short)) = inr (eof, tt)
  length_lacks (Some x) e (inr (eof, short)) = inr (eof, inl short)

module _ (T A : Type 0) (typ : TtlvType) (bytes_of : T → List ℕ) (tm cf : Bool) where
  -- reading the length failed
  pub length_fails : (a b : Option (List ℕ)) (e : Error A) → ReadsNumber (to_be_bytes w32) 4 cf a b (Err e) → ReadsLeaf {T = T} typ bytes_of tm cf a b (Err e)
  length_fails a b (errors.IoError e) (lacks, upto) = (length_lacks typ cf a e lacks, within_length a b upto)
  length_fails a b (errors.InvalidTtlvTag text) h = absurd h
  length_fails a b (errors.UnexpectedTtlvField x y) h = absurd h
  length_fails a b (errors.UnsupportedTtlvType x) h = absurd h
  length_fails a b (errors.InvalidTtlvType x) h = absurd h
  length_fails a b (errors.InvalidTtlvValueLength x y z) h = absurd h
  length_fails a b (errors.InvalidTtlvValue x) h = absurd h
  length_fails a b errors.InvalidStateMachineOperation h = absurd h
  length_fails a b errors.OutOfMemory h = absurd h
  length_fails a b errors.LengthOverflow h = absurd h

  module _ (a b c : Option (List ℕ)) (n : ℕ) (low : n < 2 ^ 32) (taken : Consumes a b (to_be_bytes w32 n)) where
    -- reading the content failed
    pub content_fails : (e : Error A) → ReadsValue {T = T} typ bytes_of tm cf b c n (Err e) → ReadsLeaf {T = T} typ bytes_of tm cf a c (Err e)
    content_fails (errors.IoError e) (can, lacks, upto) = (content_lacks typ cf a b n e low taken can lacks, within a b c n n low taken (omega arith) upto)
    content_fails (errors.InvalidTtlvValueLength expected actual t) (same, is, fixed, differs, keeps) = (
      same,
      subst (λ k. IfSome a (HasWrongLength typ expected k)) (sym is) (wrong_length typ a b n low taken expected fixed differs),
      within a b c n 0 low taken (omega arith) (nothing_taken b c keeps),
    )
    content_fails (errors.InvalidTtlvValue t) (same, can, (content, read, long, invalid)) = (
      same,
      wrong_content typ a b c n low taken content read long can invalid,
      within a b c n n low taken (omega arith) record {
        bytes = content;
        within = omega (arith, long);
        consumes = read;
      },
    )
    content_fails errors.OutOfMemory (takes, some, can, upto) = (takes, has_content a b n low taken some, within a b c n n low taken (omega arith) upto)
    content_fails (errors.InvalidTtlvTag text) h = absurd h
    content_fails (errors.UnexpectedTtlvField x y) h = absurd h
    content_fails (errors.UnsupportedTtlvType x) h = absurd h
    content_fails (errors.InvalidTtlvType x) h = absurd h
    content_fails errors.InvalidStateMachineOperation h = absurd h
    content_fails errors.LengthOverflow h = absurd h

    module _ (d : Option (List ℕ)) (v : T) (read : Consumes b c (bytes_of v)) (long : length (bytes_of v) ≡ n) (valid : is_valid typ (bytes_of v) ≡ true) where
      -- reading the padding failed
      pub padding_fails : (P : Type 0) (e : Error A) → Skips {T = P} (pad_len n) cf c d (Err e) → ReadsLeaf {T = T} typ bytes_of tm cf a d (Err e)
      padding_fails P (errors.IoError e) (lacks, upto) = (
        padding_lacks typ cf a b c n (bytes_of v) e low taken read long valid lacks,
        within a b d n (length (bytes_of v) + pad_len n) low taken (omega (arith, long)) (ConsumesUpTo-after b c d (bytes_of v) (pad_len n) _ read upto
            (omega (arith, long))),
      )
      padding_fails P (errors.InvalidTtlvTag text) h = absurd h
      padding_fails P (errors.UnexpectedTtlvField x y) h = absurd h
      padding_fails P (errors.UnsupportedTtlvType x) h = absurd h
      padding_fails P (errors.InvalidTtlvType x) h = absurd h
      padding_fails P (errors.InvalidTtlvValueLength x y z) h = absurd h
      padding_fails P (errors.InvalidTtlvValue x) h = absurd h
      padding_fails P errors.InvalidStateMachineOperation h = absurd h
      padding_fails P errors.OutOfMemory h = absurd h
      padding_fails P errors.LengthOverflow h = absurd h

      -- all of it was read
      pub leaf_read : (P : Type 0) (p : P) → Skips {T = P} {A = A} (pad_len n) cf c d (Ok p) → ReadsLeaf {T = T} {A = A} typ bytes_of tm cf a d (Ok v)
      unfolding length_and_content
      leaf_read P p (pad, size, skipped) = (
        record {
          fits = omega (arith, long);
          pad = pad;
          pad_length = size ∙ ap pad_len (sym long);
          consumes = Consumes-trans a c d _ _ (subst (λ k. Consumes a c (to_be_bytes w32 k ++ bytes_of v)) (sym long)
              (all_taken typ a b c n low taken (bytes_of v) read long)) skipped;
        },
        valid,
      )
