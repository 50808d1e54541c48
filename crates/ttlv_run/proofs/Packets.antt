-- Where the first offset of a packet stands in a text, or a message behind it.
use Rattle.std.proofs.Common.{◌≡◌, ℕ, suc, ◌+◌, ◌-◌, ◌<◌, Bool, false, List, ◌∷◌, length, take, drop, sym, ap, ◌∙◌, arith, drop-cons, take_all, refl}
use Rattle.std.proofs.lemmas.List.{length-drop}
use Rattle.std.specs.Prelude.{slice_index, ◌||◌}
use Rattle.ttlv_run.specs.Guesses.{starts_packet, has_packet, starts_message, has_message}

-- what doesn't begin at a place stands behind that, or not at all
behind :
    (starts has : List ℕ → Bool) → ((b : ℕ) (s : List ℕ) → has (b ∷ s) ≡ (starts (b ∷ s) || has s))
    → (s : List ℕ) (i : ℕ) → i < length s → starts (take (length s - i) (drop i s)) ≡ false → has s ≡ has (drop i s)
    → has s ≡ has (drop (i + 1) s)
behind starts has step s i lt none before =
    let on : suc i ≡ i + 1 = omega arith in
    let all : take (length s - i) (drop i s) ≡ drop i s = take_all (length s - i) (drop i s) (omega (arith, length-drop i s)) in
    let cut : drop i s ≡ slice_index s i ∷ drop (i + 1) s = drop-cons s i 0 lt ∙ ap (λ (n : ℕ). slice_index s i ∷ drop n s) on in
    let no : starts (slice_index s i ∷ drop (i + 1) s) ≡ false = ap starts (sym (all ∙ cut)) ∙ none in
    before ∙ ap has cut ∙ step (slice_index s i) (drop (i + 1) s) ∙ ap (λ (b : Bool). b || has (drop (i + 1) s)) no

pub packet_behind : (s : List ℕ) (i : ℕ) → i < length s → starts_packet (take (length s - i) (drop i s)) ≡ false
    → has_packet s ≡ has_packet (drop i s) → has_packet s ≡ has_packet (drop (i + 1) s)
packet_behind = behind starts_packet has_packet (λ b s. refl)

pub message_behind : (s : List ℕ) (i : ℕ) → i < length s → starts_message (take (length s - i) (drop i s)) ≡ false
    → has_message s ≡ has_message (drop i s) → has_message s ≡ has_message (drop (i + 1) s)
message_behind = behind starts_message has_message (λ b s. refl)
