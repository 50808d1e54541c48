-- Messages that come back: what is encoded is decoded as an equal message.
use Rattle.std.specs.Prelude.{◌≡◌, ◌⊎◌, Bool, true, List, ℕ, Some, Result, Ok, Err, IfOk, IfErr}
use Rattle.kmip_ttlv_types.specs.Trees.{Tree}
use Rattle.kmip_ttlv_base.specs.declared.error.Error.{Error}
use Rattle.kmip_ttlv_base.specs.Errors.{Kind, length_overflow, out_of_memory}
use Rattle.kmip_ttlv_base.specs.Forms.{Form}
use Rattle.kmip_ttlv_base.specs.Values.{Value}
use Rattle.kmip_ttlv_ser.specs.declared.pending.PendingTag.TheVariants.{Nothing}
use Rattle.kmip_ttlv_ser.specs.WrittenItems.{items}
use Rattle.kmip_ttlv_ser.specs.EncodeResults.{origin, IsWrittenAs, IsTooLong, Fails}
use Rattle.kmip_ttlv_reader.specs.Reads.{Begins}
use Rattle.kmip_ttlv_reader.specs.Outcomes.{root_outcome}
use Rattle.kmip_ttlv_reader.specs.ReadResults.{IsReadAs, ErrorStands}

-- what is sound has items; their bytes begin with a value; and what is decoded from such a value is equal
pub record Rereads {T : Type 0} (stated : T → Value) (form : Form) (is_value : Value → T → Type 0) (eq : T → T → Bool) (IsSound : T → Type 0) : Type 0 where
  pub has_items : (x : T) → IsSound x → (ts : List Tree) × (items (stated x) Nothing ≡ Some ts)
  pub begins : (x : T) (written : List ℕ) → IsSound x → IsWrittenAs (stated x) 0 written → (v : Value) × Begins form written v
  pub equal :
      (x y : T) (written : List ℕ) (v : Value)
      → IsSound x
      → IsWrittenAs (stated x) 0 written
      → Begins form written v
      → is_value v y
      → eq x y ≡ true

-- why a sound message, which is encoded as this value, can fail to come back: memory ran out, or its items don't fit a length
abbrev pub FailsBySize : Value → Kind → Type 0
FailsBySize v out_of_memory = Unit {0}
FailsBySize v length_overflow = IsTooLong v origin
FailsBySize v _ = ⊥

-- the value was encoded as some bytes, and this is what `from_slice` returns of them
pub record IsReread {T A : Type 0} (s : Form) (is_value : Value → T → Type 0) (v : Value) (r : Result T (Error A)) : Type 0 where
  pub bytes : List ℕ
  pub written : IsWrittenAs v 0 bytes
  pub equals : IsReadAs is_value (root_outcome s bytes) r
  pub found : IfOk r (λ x. (u : Value) × Begins s bytes u × is_value u x)
  pub refused : IfErr r (λ e. ErrorStands s bytes e)

-- what comes of any message, sound or not: what `from_slice` returns of its bytes; or it has none, and this is the error of `to_vec`
abbrev pub GivesBack : {T A : Type 0} → Form → (Value → T → Type 0) → Value → Result T (Error A) → Type 0
GivesBack {A = A} s is_value v (Ok x) = IsReread {A = A} s is_value v (Ok x)
GivesBack s is_value v (Err e) = Fails v origin e ⊎ IsReread s is_value v (Err e)
