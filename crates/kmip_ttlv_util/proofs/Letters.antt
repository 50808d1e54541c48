-- The letters of types: each belongs to one type.
use Rattle.std.proofs.Common.{◌≡◌, ℕ, Bool, true, false, Option, Some, None, cond, eqb, eqb-true, refl, sym, ◌∙◌, ap}
use Rattle.kmip_ttlv_types.specs.declared.typ.TtlvType.{TtlvType}
use Rattle.kmip_ttlv_types.specs.declared.typ.TtlvType.TheVariants.{Structure, Integer, LongInteger, BigInteger, Enumeration, Boolean, TextString, ByteString}
use Rattle.kmip_ttlv_types.specs.declared.typ.TtlvType.TheVariants.{DateTime, Interval}
use Rattle.kmip_ttlv_util.specs.Letters.{letter, type_of_letter}

-- a letter of this type, or of those that follow
letter_by : (c n : ℕ) (t u : TtlvType) (o : Option TtlvType) → letter u ≡ n → (o ≡ Some t → c ≡ letter t) → cond (eqb c n) (Some u) o ≡ Some t → c ≡ letter t
letter_by c n t u o is more = by (eqb c n) refl
  where
    by : (b : Bool) → eqb c n ≡ b → cond b (Some u) o ≡ Some t → c ≡ letter t
    by true e k = let same : u ≡ t = cc in eqb-true c n e ∙ sym is ∙ ap letter same
    by false e k = more k

-- a type's letter, from the type that it has
pub letter_type : (c : ℕ) (t : TtlvType) → type_of_letter c ≡ Some t → c ≡ letter t
letter_type c t = letter_by c 91 t Structure _ refl (letter_by c 105 t Integer _ refl (letter_by c 108 t LongInteger _ refl
    (letter_by c 73 t BigInteger _ refl (letter_by c 101 t Enumeration _ refl (letter_by c 98 t Boolean _ refl (letter_by c 116 t TextString _ refl
    (letter_by c 111 t ByteString _ refl (letter_by c 100 t DateTime _ refl (letter_by c 110 t Interval None refl (λ k. absurd cc))))))))))

-- a letter's type, from the type's letter
pub letter_back : (t : TtlvType) → type_of_letter (letter t) ≡ Some t
letter_back Structure = refl
letter_back typ = refl
