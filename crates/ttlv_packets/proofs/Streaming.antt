-- One more segment of a stream.
use Rattle.std.proofs.Common.{◌≡◌, ◌∙◌, ℕ, ◌+◌, ◌<◌, ◌≤◌, List, [], ◌∷◌, ◌++◌, length, drop, get_or, max, refl, sym, ap, arith, add-one, append_assoc}
use Rattle.std.proofs.Math.Seq.{drop-cons}
use Rattle.std.specs.Prelude.{slice_get}
use Rattle.std.proofs.lemmas.Bool.{lt-ltb, le-ltb, lt-leb}
use Rattle.ttlv_packets.specs.declared.place.Placed.{Placed}
use Rattle.ttlv_packets.specs.Streams.{end_of, new_bytes, stream_bytes, reach, giver}

bytes_on : (s : List ℕ) (next : ℕ) (ps : List Placed) (p : Placed) → p.at ≤ next
    → stream_bytes s next (p ∷ ps) ≡ new_bytes s next p ++ stream_bytes s (max next (end_of p)) ps
bytes_on s next ps p le = rw (le-ltb next p.at le) refl

bytes_end : (s : List ℕ) (next : ℕ) (ps : List Placed) (p : Placed) → next < p.at → stream_bytes s next (p ∷ ps) ≡ []
bytes_end s next ps p lt = rw (lt-ltb next p.at lt) refl

reach_on : (next : ℕ) (ps : List Placed) (p : Placed) → p.at ≤ next → reach next (p ∷ ps) ≡ reach (max next (end_of p)) ps
reach_on next ps p le = rw (le-ltb next p.at le) refl

front : (xs : List Placed) (i : ℕ) (d : Placed) → i < length xs → drop i xs ≡ get_or xs i d ∷ drop (i + 1) xs
front xs i d h = rw (add-one i) (drop-cons xs i d h)

-- the segments from an index on begin with a gap
pub bytes_stop :
    (s : List ℕ) (next : ℕ) (ps : List Placed) (i : ℕ) (d : Placed) → i < length ps → next < (get_or ps i d).at
    → stream_bytes s next (drop i ps) ≡ []
bytes_stop s next ps i d h lt = ap (stream_bytes s next) (front ps i d h) ∙ bytes_end s next (drop (i + 1) ps) (get_or ps i d) lt

-- or with more bytes
bytes_more :
    (s : List ℕ) (next : ℕ) (ps : List Placed) (i : ℕ) (d : Placed) → i < length ps → (get_or ps i d).at ≤ next
    → stream_bytes s next (drop i ps) ≡ new_bytes s next (get_or ps i d) ++ stream_bytes s (max next (end_of (get_or ps i d))) (drop (i + 1) ps)
bytes_more s next ps i d h le = ap (stream_bytes s next) (front ps i d h) ∙ bytes_on s next (drop (i + 1) ps) (get_or ps i d) le

reach_more :
    (next : ℕ) (ps : List Placed) (i : ℕ) (d : Placed) → i < length ps → (get_or ps i d).at ≤ next
    → reach next (drop i ps) ≡ reach (max next (end_of (get_or ps i d))) (drop (i + 1) ps)
reach_more next ps i d h le = ap (reach next) (front ps i d h) ∙ reach_on next (drop (i + 1) ps) (get_or ps i d) le

-- the first segment has the byte
pub giver_first : (place : ℕ) (ps : List Placed) (d : Placed) → 0 < length ps → place < end_of (get_or ps 0 d) → slice_get ps 0 ≡ giver place ps
giver_first place [] d h lt = absurd (omega arith)
giver_first place (p ∷ []) d h lt = refl
giver_first place (p ∷ (q ∷ ps)) d h lt = rw (lt-leb (end_of p) place lt) refl

-- what is added with it
pub assembled :
    (s old out part all : List ℕ) (first next then_ reached : ℕ) (run : List Placed) (i : ℕ) (d : Placed)
    → i < length run → (get_or run i d).at ≤ next
    → old ++ stream_bytes s first run ≡ out ++ stream_bytes s next (drop i run)
    → part ≡ new_bytes s next (get_or run i d) → all ≡ out ++ part → then_ ≡ max next reached → reached ≡ end_of (get_or run i d)
    → old ++ stream_bytes s first run ≡ all ++ stream_bytes s then_ (drop (i + 1) run)
assembled s old out part all first next then_ reached run i d h le so_far new added further end =
    rw (added, new, further, end) (so_far ∙ ap (λ (t : List ℕ). out ++ t) (bytes_more s next run i d h le)
    ∙ sym (append_assoc out (new_bytes s next (get_or run i d)) (stream_bytes s (max next (end_of (get_or run i d))) (drop (i + 1) run))))

pub reached_on :
    (first next then_ reached : ℕ) (run : List Placed) (i : ℕ) (d : Placed)
    → i < length run → (get_or run i d).at ≤ next → reach first run ≡ reach next (drop i run)
    → then_ ≡ max next reached → reached ≡ end_of (get_or run i d)
    → reach first run ≡ reach then_ (drop (i + 1) run)
reached_on first next then_ reached run i d h le so_far further end = rw (further, end) (so_far ∙ reach_more next run i d h le)
