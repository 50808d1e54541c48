-- One more stream.
use Rattle.std.proofs.Common.{◌≡◌, ℕ, ◌+◌, ◌<◌, List, [], length, sym, subst}
use Rattle.ttlv_packets.specs.declared.{message.Message.Message, place.Placed.Placed}
use Rattle.ttlv_packets.specs.Captures.{Carries, no_stream, stream_more, Carried, run_at}

pub carries_none : (s : List ℕ) (ps : List Placed) {bytes : List ℕ} {ms : List Message} → bytes ≡ [] → ms ≡ [] → Carries s ps 0 bytes ms
carries_none s ps {bytes} {ms} none no_message =
    let P = λ (b : List ℕ). Carries s ps 0 b ms in
    subst P (sym none) (subst (Carries s ps 0 []) (sym no_message) no_stream)

pub carries_more :
    (s : List ℕ) (ps run : List Placed) (i : ℕ) {old new : List ℕ} {before after : List Message}
    → Carries s ps i old before → i < length ps → run ≡ run_at ps i → Carried s run old new before after
    → Carries s ps (i + length run) new after
carries_more s ps run i {old} {new} {before} {after} carries lt is carried =
    let P = λ (r : List Placed). Carried s r old new before after → Carries s ps (i + length r) new after in
    let base : P (run_at ps i) = λ h. stream_more i old new before after carries lt h in
    subst P (sym is) base carried
