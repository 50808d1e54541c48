-- An error by size is only that of a message's size.
use Rattle.std.proofs.Common.{◌≡◌, ℕ, Bool, List, inl, inr, Option, Result, Ok, Err, sym, ap, ◌∙◌, subst}
use Rattle.std.specs.Prelude.{IfErr}
use Rattle.kmip_ttlv_base.specs.{declared.error.Error.Error, Values.Value, Forms.Form}
use Rattle.kmip_ttlv_base.specs.Errors.{Kind, exceeds_limit, kind_of, view_of_kind}
use Rattle.kmip_ttlv_reader.specs.Steps.{Fault, Outcome, gives, ends_early, fails}
use Rattle.kmip_ttlv_reader.specs.Outcomes.{root_outcome}
use Rattle.kmip_ttlv_reader.specs.ReadResults.{IsReadAs, IsError, IsOfBytes, seen}
use Rattle.kmip_ttlv_de.specs.StreamMessages.{SliceResult, message_size, LackCause, no_memory, no_bytes, FailsToArrive, in_header, of_no_type, over_limit}
use Rattle.kmip_ttlv_de.specs.StreamMessages.{in_body, untyped_kind, Ends, IsBySize}

-- no error by size
abbrev NotBySize : Kind → Type 0
NotBySize (exceeds_limit n) = ⊥
NotBySize _ = Unit {0}

not_by_size : (k : Kind) (n : ℕ) → NotBySize k → k ≡ exceeds_limit n → ⊥
not_by_size k n h is = subst NotBySize is h

-- an error of the bytes is none by size
of_bytes_other : (k : Kind) (n : ℕ) → IsOfBytes k → k ≡ exceeds_limit n → ⊥
of_bytes_other k n h is = subst IsOfBytes is h

error_other : (o : Outcome Value) (f : Fault) (n : ℕ) → IsError o f → f.why ≡ exceeds_limit n → ⊥
error_other (gives v) f n h is = h
error_other ends_early f n h is = not_by_size f.why n (subst (λ (g : Fault). NotBySize g.why) (sym h) tt) is
error_other (fails x) f n h is = of_bytes_other f.why n h.1 is

read_other : {T A : Type 0} (s : Form) (is_value : Value → T → Type 0) (b : List ℕ) (e : Error A) (n : ℕ)
    → IsReadAs is_value (root_outcome s b) (Err e) → view_of_kind (kind_of e) ≡ exceeds_limit n → ⊥
read_other s is_value b e n (inl lack) is = cc (ap view_of_kind lack.kind)
read_other s is_value b e n (inr h) is = error_other (root_outcome s b) (seen e) n h is

answered_other : {T A : Type 0} (s : Form) (is_value : Value → T → Type 0) (b : List ℕ) (e : Error A) (n : ℕ)
    → SliceResult s is_value b (Err e) → view_of_kind (kind_of e) ≡ exceeds_limit n → ⊥
answered_other s is_value b e n a is = read_other s is_value b e n a.equals is

lack_other : {A : Type 0} (can_fail : Bool) (old : Option (List ℕ)) (m : ℕ) (e : Error A) (n : ℕ)
    → LackCause can_fail old m e → view_of_kind (kind_of e) ≡ exceeds_limit n → ⊥
lack_other can_fail old m e n (no_memory lack) is = cc (ap view_of_kind lack.kind)
lack_other can_fail old m e n (no_bytes fault io lacks) is = cc (ap view_of_kind io.kind)

stops_by_size : {A : Type 0} (can_fail : Bool) (limit : Option ℕ) (old new reused : Option (List ℕ)) (e : Error A)
    → FailsToArrive can_fail limit old new reused e → IsBySize limit old new e
stops_by_size can_fail limit old new reused e (in_header lacks) n is =
    absurd (lack_other can_fail old 8 e n lacks.cause is)
stops_by_size can_fail limit old new reused e (of_no_type head comes k) n is =
    absurd (not_by_size (untyped_kind head) n tt (sym comes.untyped.kind ∙ is))
stops_by_size can_fail limit old new reused e (over_limit head comes k) n is =
    let says : view_of_kind (kind_of e) ≡ exceeds_limit (message_size head) =
    ap view_of_kind comes.over.kind in (head, comes, cc)
stops_by_size can_fail limit old new reused e (in_body head mid m taken long size lacks) n is =
    absurd (lack_other can_fail mid m e n lacks.cause is)

-- an error by size is only returned for a message that is larger than the limit
pub by_size : {T A : Type 0} (s : Form) (is_value : Value → T → Type 0) (can_fail : Bool) (limit : Option ℕ)
    (old new reused : Option (List ℕ)) (r : Result T (Error A))
    → Ends (SliceResult s is_value) can_fail limit old new reused r → IfErr r (IsBySize limit old new)
by_size s is_value can_fail limit old new reused (Ok x) ends = tt
by_size s is_value can_fail limit old new reused (Err e) (inl came) =
    λ n is. absurd (answered_other s is_value came.message e n came.answer is)
by_size s is_value can_fail limit old new reused (Err e) (inr stops) =
    stops_by_size can_fail limit old new reused e stops
