-- Reading from memory and writing into it fail only because of the bytes or the room.
use Rattle.std.proofs.Common.{◌≡◌, ℕ, ◌<◌, ◌≤◌, ◌^◌, List, ◌∷◌, true, false, Option, Some, None, Result, Ok, Err, IsOk, length, ap, sym, arith, refl, inl, inr}
use Rattle.std.proofs.Common.{◌⊎◌, Global, get_or, ◌∙◌}
use Rattle.std.specs.Prelude.{MatchResult}
use Rattle.kmip_ttlv_types.specs.{declared.error.Error.Error, declared.typ.TtlvType.TtlvType, ItemTypes.code, ItemTypes.type_of, Primitives.WritesLong}
use Rattle.kmip_ttlv_types.specs.{Laws.ReadsHeaders, Laws.WritesWhereRoom}
use Rattle.kmip_ttlv_types.specs.Headers.{ReadsNumber, ReadsType, Writes}
use Rattle.kmip_ttlv_types.specs.declared.error.Error.TheVariants as errors

true_not_false : true ≡ false → ⊥
true_not_false e = cc

number_read : (bytes_of : ℕ → List ℕ) (n : ℕ) (there : List ℕ) (new : Option (List ℕ)) (result : Result ℕ (Error Global))
    → n ≤ length there → ReadsNumber bytes_of n false (Some there) new result → IsOk result
number_read f n there new (Ok k) low h = refl
number_read f n there new (Err (errors.IoError e)) low (inl fails, upto) = absurd (true_not_false (sym fails))
number_read f n there new (Err (errors.IoError e)) low (inr (eof, short), upto) = absurd (omega (arith, low, short))
number_read f n there new (Err (errors.InvalidTtlvTag text)) low h = absurd h
number_read f n there new (Err (errors.UnexpectedTtlvField x y)) low h = absurd h
number_read f n there new (Err (errors.UnsupportedTtlvType x)) low h = absurd h
number_read f n there new (Err (errors.InvalidTtlvType x)) low h = absurd h
number_read f n there new (Err (errors.InvalidTtlvValueLength x y z)) low h = absurd h
number_read f n there new (Err (errors.InvalidTtlvValue x)) low h = absurd h
number_read f n there new (Err errors.InvalidStateMachineOperation) low h = absurd h
number_read f n there new (Err errors.OutOfMemory) low h = absurd h
number_read f n there new (Err errors.LengthOverflow) low h = absurd h

pub type_read : (c : ℕ) (rest : List ℕ) (new : Option (List ℕ)) (result : Result TtlvType (Error Global)) → ReadsType false (Some (c ∷ rest)) new result
    → MatchResult result (λ t. code t ≡ c) (λ e. (e ≡ errors.InvalidTtlvType c) × (type_of c ≡ None))
type_read c rest None (Ok t) h = absurd h
type_read c rest (Some ys) (Ok t) h = ap (λ (l : List ℕ). get_or l 0 0) (sym h)
type_read c rest None (Err (errors.InvalidTtlvType d)) (taken, none) = absurd taken
type_read c rest (Some ys) (Err (errors.InvalidTtlvType d)) (taken, none) =
    let is : d ≡ c = ap (λ (l : List ℕ). get_or l 0 0) (sym taken) in (ap errors.InvalidTtlvType is, ap type_of (sym is) ∙ none)
type_read c rest new (Err (errors.IoError e)) (inl fails, upto) = absurd (true_not_false (sym fails))
type_read c rest new (Err (errors.IoError e)) (inr (eof, short), upto) = absurd (omega (arith, short))
type_read c rest new (Err (errors.InvalidTtlvTag text)) h = absurd h
type_read c rest new (Err (errors.UnexpectedTtlvField x y)) h = absurd h
type_read c rest new (Err (errors.UnsupportedTtlvType x)) h = absurd h
type_read c rest new (Err (errors.InvalidTtlvValueLength x y z)) h = absurd h
type_read c rest new (Err (errors.InvalidTtlvValue x)) h = absurd h
type_read c rest new (Err errors.InvalidStateMachineOperation) h = absurd h
type_read c rest new (Err errors.OutOfMemory) h = absurd h
type_read c rest new (Err errors.LengthOverflow) h = absurd h

pub headers_read : ReadsHeaders
headers_read = (number_read, type_read)

room_written : (bytes : List ℕ) (n : ℕ) (old new : Option (List ℕ)) (room : ℕ) (room_new : Option ℕ) (result : Result (Unit {0}) (Error Global))
    → length bytes ≤ room → n < 2 ^ 32 → Writes bytes old new (Some room) room_new result ⊎ WritesLong n bytes old new (Some room) room_new result → IsOk result
room_written bytes n old new room s (Ok u) enough low h = refl
room_written bytes n old new room s (Err (errors.IoError e)) enough low (inl (front, tight)) = absurd (omega (arith, enough, tight))
room_written bytes n old new room s (Err (errors.IoError e)) enough low (inr (small, front, tight)) = absurd (omega (arith, enough, tight))
room_written bytes n old new room s (Err errors.LengthOverflow) enough low (inl h) = absurd h
room_written bytes n old new room s (Err errors.LengthOverflow) enough low (inr (long, keeps)) = absurd (omega (arith, low, long))
room_written bytes n old new room s (Err (errors.InvalidTtlvTag text)) enough low (inl h) = absurd h
room_written bytes n old new room s (Err (errors.InvalidTtlvTag text)) enough low (inr h) = absurd h
room_written bytes n old new room s (Err (errors.UnexpectedTtlvField x y)) enough low (inl h) = absurd h
room_written bytes n old new room s (Err (errors.UnexpectedTtlvField x y)) enough low (inr h) = absurd h
room_written bytes n old new room s (Err (errors.UnsupportedTtlvType x)) enough low (inl h) = absurd h
room_written bytes n old new room s (Err (errors.UnsupportedTtlvType x)) enough low (inr h) = absurd h
room_written bytes n old new room s (Err (errors.InvalidTtlvType x)) enough low (inl h) = absurd h
room_written bytes n old new room s (Err (errors.InvalidTtlvType x)) enough low (inr h) = absurd h
room_written bytes n old new room s (Err (errors.InvalidTtlvValueLength x y z)) enough low (inl h) = absurd h
room_written bytes n old new room s (Err (errors.InvalidTtlvValueLength x y z)) enough low (inr h) = absurd h
room_written bytes n old new room s (Err (errors.InvalidTtlvValue x)) enough low (inl h) = absurd h
room_written bytes n old new room s (Err (errors.InvalidTtlvValue x)) enough low (inr h) = absurd h
room_written bytes n old new room s (Err errors.InvalidStateMachineOperation) enough low (inl h) = absurd h
room_written bytes n old new room s (Err errors.InvalidStateMachineOperation) enough low (inr h) = absurd h
room_written bytes n old new room s (Err errors.OutOfMemory) enough low (inl h) = absurd h
room_written bytes n old new room s (Err errors.OutOfMemory) enough low (inr h) = absurd h

pub where_room_written : WritesWhereRoom
where_room_written = room_written
