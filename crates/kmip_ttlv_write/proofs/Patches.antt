-- A length field that is filled in, and read.
use Rattle.std.proofs.Common.{◌≡◌, ℕ, ◌+◌, ◌<◌, ◌^◌, List, [], ◌∷◌, ◌++◌, length, get_or, take, drop, ap, sym, ◌∙◌, arith, append_assoc, length-append}
use Rattle.std.proofs.lemmas.List.{take_at, drop_at, get_or-drop, take-append-drop}
use Rattle.std.proofs.lemmas.Nat.{from_be_bytes-to_be_bytes_4}
use Rattle.std.specs.Int.{w32, to_be_bytes, from_be_bytes, bytes_high_first}
use Rattle.kmip_ttlv_types.specs.{declared.typ.TtlvType.TtlvType, ItemTypes.code, Places.length_at}

-- the four bytes of a header before its length
abbrev pub lead : ℕ → TtlvType → List ℕ
lead tag typ = bytes_high_first 3 tag ++ code typ ∷ []

-- a number from the four bytes that encode it
number_read : (a b c d n : ℕ) → n < 2 ^ 32 → a ≡ get_or (to_be_bytes w32 n) 0 0 → b ≡ get_or (to_be_bytes w32 n) 1 0 → c ≡ get_or (to_be_bytes w32 n) 2 0
    → d ≡ get_or (to_be_bytes w32 n) 3 0 → from_be_bytes w32 (a ∷ b ∷ c ∷ d ∷ []) ≡ n
number_read a b c d n lt ea eb ec ed = rw (ea, eb, ec, ed) (from_be_bytes-to_be_bytes_4 n lt)

module _ (out s h l d : List ℕ) (top at : ℕ) (s-is : length s ≡ top) (h-is : length h ≡ 4) (l-is : length l ≡ 4) (at-is : at ≡ top + 8 + length d)
    (emitted : take at out ≡ s ++ ((h ++ l) ++ d)) where
  all : out ≡ (s ++ ((h ++ l) ++ d)) ++ drop at out
  all = sym (take-append-drop at out) ∙ ap (λ (x : List ℕ). x ++ drop at out) emitted

  front : take (top + 4) out ≡ s ++ h
  front =
      let e : out ≡ (s ++ h) ++ (l ++ (d ++ drop at out)) = all ∙ simp append_assoc in
      ap (take (top + 4)) e ∙ take_at (s ++ h) (l ++ (d ++ drop at out)) (top + 4) (omega (arith, length-append s h))

  field : drop (top + 4) out ≡ l ++ (d ++ drop at out)
  field =
      let e : out ≡ (s ++ h) ++ (l ++ (d ++ drop at out)) = all ∙ simp append_assoc in
      ap (drop (top + 4)) e ∙ drop_at (s ++ h) (l ++ (d ++ drop at out)) (top + 4) (omega (arith, length-append s h))

  back : drop (top + 8) out ≡ d ++ drop at out
  back =
      let e : out ≡ ((s ++ h) ++ l) ++ (d ++ drop at out) = all ∙ simp append_assoc in
      ap (drop (top + 8)) e ∙ drop_at ((s ++ h) ++ l) (d ++ drop at out) (top + 8) (omega (arith, length-append s h, length-append (s ++ h) l))

  -- the bytes up to this offset, with another length
  pub patched : (k : List ℕ) → length k ≡ 4 → take at (take (top + 4) out ++ (k ++ drop (top + 8) out)) ≡ s ++ ((h ++ k) ++ d)
  patched k k-is =
      let e : (s ++ h) ++ (k ++ (d ++ drop at out)) ≡ (s ++ ((h ++ k) ++ d)) ++ drop at out = simp append_assoc in
      let len : length (s ++ ((h ++ k) ++ d)) ≡ at = omega (arith, length-append s ((h ++ k) ++ d), length-append (h ++ k) d, length-append h k) in
      ap (λ (x : List ℕ). take at (x ++ (k ++ drop (top + 8) out))) front ∙ ap (λ (x : List ℕ). take at ((s ++ h) ++ (k ++ x))) back ∙ ap (take at) e
      ∙ take_at (s ++ ((h ++ k) ++ d)) (drop at out) at len

  -- the length in the header
  pub length_read : (n : ℕ) → n < 2 ^ 32 → l ≡ to_be_bytes w32 n → length_at out top ≡ n
  length_read n lt is =
      number_read (get_or out (top + 4) 0) (get_or out (top + 5) 0) (get_or out (top + 6) 0) (get_or out (top + 7) 0) n lt
      (cell 0 4 (omega arith)) (cell 1 5 (omega arith)) (cell 2 6 (omega arith)) (cell 3 7 (omega arith))
    where
      cell : (i k : ℕ) → k ≡ 4 + i → get_or out (top + k) 0 ≡ get_or (to_be_bytes w32 n ++ (d ++ drop at out)) i 0
      cell i k e = ap (λ (m : ℕ). get_or out m 0) (omega arith) ∙ sym (get_or-drop (top + 4) out i 0)
          ∙ ap (λ (x : List ℕ). get_or x i 0) (field ∙ ap (λ (x : List ℕ). x ++ (d ++ drop at out)) is)
