-- What holds of each structure that is a list of its parts.
use Rattle.std.specs.Prelude.{◌≡◌, ◌↔◌, ◌⊎◌, Err, List, Ok, Result, ℕ}
use Rattle.kmip_ttlv_base.specs.{declared.error.Error.Error, Errors.IsMemory, Forms.Form, Values.Value}
use Rattle.kmip_ttlv_ser.specs.EncodeResults.{Fails, IsWrittenAs, WrittenBytes, origin}
use Rattle.kmip_ttlv_reader.specs.{Outcomes.root_outcome, ReadResults.ErrorStands, ReadResults.IsError, ReadResults.seen, Reads.Begins}
use Rattle.kmip_ttlv_parts.specs.Equal.{AreEqual}
use Rattle.kmip_ttlv_kinds.specs.Parts.{ItemRules}

-- the bytes of a sound one, behind any others, begin by its form with its own value and with no other
abbrev pub AreReadBack : {H : Type 0} {s : Form} {g : H → Value} → ItemRules H s g → Type 0
AreReadBack {H} {s} {g} i =
    (x : H) (n : ℕ) (written : List ℕ) (v : Value)
    → i.IsSound x
    → IsWrittenAs (i.written x) n written
    → Begins s written v ↔ (v ≡ g x)

-- those that stand for the same are equal: no part of what one is read from is lost
abbrev pub AreEqualByValue : {H : Type 0} {s : Form} {g : H → Value} → ItemRules H s g → Type 0
AreEqualByValue {g = g} i = AreEqual g i.eq

-- what a value is by another form: what that form reads of its bytes; or the error of a value without bytes; or memory ran out, or it is the
-- error that the form has for these bytes, which stands
abbrev pub IsReadFrom : {T A : Type 0} → Value → Form → (T → Value) → Result T (Error A) → Type 0
IsReadFrom v s g (Ok x) = WrittenBytes v (λ bytes. Begins s bytes (g x))
IsReadFrom v s g (Err e) = Fails v origin e ⊎ WrittenBytes v (λ bytes. (IsMemory e ⊎ IsError (root_outcome s bytes) (seen e)) × ErrorStands s bytes e)
