-- Where a read leaves the reader.
use Rattle.std.proofs.Common.{◌≡◌, ℕ, Bool, true, false, List, Option, None, Result, Ok, Err, sym, ap, ◌∙◌, subst, arith, inl, inr}
use Rattle.kmip_ttlv_types.specs.{ItemTypes.code, ItemTypes.type_of, Places.ItemAt}
use Rattle.kmip_ttlv_types.proofs.PlaceLemmas.{item_at_text}
use Rattle.kmip_ttlv_base.specs.{declared.error.Error.Error, Forms.Form, Values.Value}
use Rattle.kmip_ttlv_reader.specs.Reads.{Begins}
use Rattle.kmip_ttlv_de.specs.StreamMessages.{SliceResult, Arrives, Leaves, heads_structure, is_code_of_structure}
use Rattle.kmip_ttlv_de.proofs.Stopping.{fresh_stops}

-- what a structure is read from has a Structure's header
begun_heads : (s : Form) (bytes : List ℕ) (v : Value) → Begins s bytes v → heads_structure bytes ≡ true
begun_heads s bytes v g =
    let item : ItemAt bytes 0 g.item = item_at_text bytes 0 g.item g.item_text g.after (omega arith) g.parts g.is_text in
    ap (λ (n : ℕ). is_code_of_structure (type_of n)) (sym item.typ ∙ ap code g.is_structure)

leaves_by : {T A : Type 0} (s : Form) (is_value : Value → T → Type 0) (can_fail : Bool) (limit : Option ℕ)
    (old new reused : Option (List ℕ)) (message : List ℕ) (b : Bool) (r : Result T (Error A))
    → Arrives limit old new message → heads_structure message ≡ b → SliceResult s is_value message r
    → Leaves can_fail limit old new reused b r
leaves_by s is_value can_fail limit old new reused message true r comes is answer =
    record { message = message; comes = comes; is_structure = is }
leaves_by s is_value can_fail limit old new reused message false (Ok x) comes is answer =
    let heads = begun_heads s message answer.found.0 answer.found.1 in absurd cc
leaves_by s is_value can_fail limit old new reused message false (Err e) comes is answer =
    inr record { item = message; comes = comes; is_other = is }

-- a message came, and this is returned for its bytes
pub leaves_behind : {T A : Type 0} (s : Form) (is_value : Value → T → Type 0) (can_fail : Bool) (limit : Option ℕ)
    (old new reused : Option (List ℕ)) (message seen : List ℕ) (b : Bool) (r : Result T (Error A))
    → Arrives limit old new message → seen ≡ message → b ≡ heads_structure seen → SliceResult s is_value seen r
    → Leaves can_fail limit old new reused b r
leaves_behind s is_value can_fail limit old new reused message seen b r comes same is answer =
    leaves_by s is_value can_fail limit old new reused message b r comes
    (sym (ap heads_structure same) ∙ sym is)
    (subst (λ (l : List ℕ). SliceResult s is_value l r) same answer)

-- no buffer is kept
pub leaves_fresh : {T A : Type 0} (can_fail : Bool) (limit : Option ℕ) (old new reused : Option (List ℕ)) (b : Bool)
    (r : Result T (Error A)) → Leaves can_fail limit old new reused b r → Leaves can_fail limit old new None b r
leaves_fresh can_fail limit old new reused true r l = l
leaves_fresh can_fail limit old new reused false (Ok x) l = absurd l
leaves_fresh can_fail limit old new reused false (Err e) (inl s) = inl (fresh_stops can_fail limit old new reused e s)
leaves_fresh can_fail limit old new reused false (Err e) (inr t) = inr t
