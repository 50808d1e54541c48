-- One more message of a stream.
use Rattle.std.proofs.Common.{◌≡◌, ◌∙◌, ℕ, ◌+◌, ◌-◌, ◌<◌, ◌≤◌, List, [], ◌∷◌, ◌++◌, length, drop, get_or, refl, sym, ap, subst, arith, Some}
use Rattle.std.specs.Prelude.{slice_get}
use Rattle.ttlv_packets.specs.declared.{message.Message.Message, place.Placed.Placed, place.TheConstants.FIRST}
use Rattle.ttlv_packets.specs.Messages.{Splits, message_more, message_by, size_in}
use Rattle.ttlv_packets.specs.Streams.{giver}

head : (ps : List Placed) (d : Placed) → 0 < length ps → slice_get ps 0 ≡ Some (get_or ps 0 d)
head [] d h = absurd (omega arith)
head (p ∷ ps) d h = refl

pub split_on :
    (bytes rest : List ℕ) (start : ℕ) (run prev now : List Placed) (before ms more : List Message) (at size : ℕ) (d : Placed) (m : Message)
    → Splits bytes start run before at ms → at < length bytes
    → size ≡ size_in rest → rest ≡ drop at bytes → 0 < size
    → ((q : ℕ) → FIRST + at ≤ q → giver q run ≡ giver q prev)
    → 0 < length now → slice_get now 0 ≡ giver (FIRST + (at + size - 1)) prev
    → m ≡ message_by (get_or now 0 d) start at size → more ≡ ms ++ m ∷ []
    → Splits bytes start run before (at + size) more
split_on bytes rest start run prev now before ms more at size d m splits lt is front some later there first made added =
    let all = size_in (drop at bytes) in
    let e : size ≡ all = is ∙ ap size_in front in
    let p = get_or now 0 d in
    let P = λ (k : ℕ). giver (FIRST + (at + k - 1)) run ≡ Some p → Splits bytes start run before (at + k) (ms ++ message_by p start at k ∷ []) in
    let base : P all = λ h. message_more at ms p splits lt h in
    let near : FIRST + at ≤ FIRST + (at + size - 1) = omega arith in
    let gives : giver (FIRST + (at + size - 1)) run ≡ Some p = later (FIRST + (at + size - 1)) near ∙ sym first ∙ head now d there in
    let step = subst P (sym e) base gives in
    let Q = λ (k : Message). Splits bytes start run before (at + size) (ms ++ k ∷ []) in
    subst (Splits bytes start run before (at + size)) (sym added) (subst Q (sym made) step)
