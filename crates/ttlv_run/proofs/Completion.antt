-- What is printed of an input exists, and goes on behind what is printed of a beginning of it.
use Rattle.std.proofs.Common.{◌≡◌, inl, inr, ℕ, zero, suc, ◌+◌, ◌-◌, ◌<◌, ◌≤◌, ◌&&◌, Bool, true, false, if◌then◌else◌, List, [], ◌∷◌, ◌++◌, length, drop}
use Rattle.std.proofs.Common.{get_or, Option, Some, None, ap, sym, refl, subst, ◌∙◌, arith, append_assoc, append-nil}
use Rattle.std.specs.{Prelude.nat_le, List.flat_map}
use Rattle.std.proofs.lemmas.Bool.{cases_lt, leb-true, and_parts}
use Rattle.std.proofs.lemmas.Grind.{flat_map-append}
use Rattle.std.proofs.lemmas.List.{get_or-take, get_or-drop, get_or_past, length-drop, length-take-le}
use Rattle.kmip_ttlv_types.specs.Places.{length_at}
use Rattle.kmip_ttlv_items.specs.declared.found.{FoundItem.FoundItem, Fault.Fault}
use Rattle.kmip_ttlv_items.specs.ItemWalks.{Meets, at_first, Ends}
use Rattle.kmip_ttlv_items.proofs.Completes.{ends}
use Rattle.ttlv_run.specs.declared.{job.Task.Task, job.Task.TheVariants.Show, job.Look.Look, lines.Reach.Reach, messages.Place.Place}
use Rattle.ttlv_run.specs.declared.{messages.Wrong.TheVariants.Malformed, messages.Wrong.TheVariants.NotKmip}
use Rattle.ttlv_run.specs.Messages.{first_size, message_at, Whole, whole_more, tag_there, is_taken, IsWrong, malformed, not_taken, Breaks, Prints, Continues}
use Rattle.ttlv_run.specs.Texts.{Names, reach_after, reach_all, no_reach, item_text, lines_from, message_text, IsMessageText}

-- a message is some of the bytes that are left
first_within : (r : List ℕ) → 0 < length r → (0 < first_size r) × (first_size r ≤ length r)
first_within r lt = by (nat_le 8 (length r) && nat_le (8 + length_at r 0) (length r)) refl
  where
    by : (b : Bool) → (nat_le 8 (length r) && nat_le (8 + length_at r 0) (length r)) ≡ b → (0 < (if b then 8 + length_at r 0 else length r))
        × ((if b then 8 + length_at r 0 else length r) ≤ length r)
    by true is = (omega arith, leb-true (8 + length_at r 0) (length r) (and_parts (nat_le 8 (length r)) (nat_le (8 + length_at r 0) (length r)) is).1)
    by false is = (lt, omega arith)

module _ (bytes : List ℕ) (p : ℕ) (lt : p < length bytes) where
  rest : 0 < length (drop p bytes)
  rest = omega (arith, length-drop p bytes)

  message_size : length (message_at bytes p) ≡ first_size (drop p bytes)
  message_size = length-take-le (first_size (drop p bytes)) (drop p bytes) (first_within (drop p bytes) rest).1

  pub message_some : 0 < length (message_at bytes p)
  message_some = omega (arith, message_size, (first_within (drop p bytes) rest).0)

  pub message_within : p + length (message_at bytes p) ≤ length bytes
  message_within = omega (arith, message_size, (first_within (drop p bytes) rest).1, length-drop p bytes)

  pub message_plain : ((k : ℕ) → get_or bytes k 0 < 256) → (k : ℕ) → get_or (message_at bytes p) k 0 < 256
  message_plain plain k = elim (cases_lt k (first_size (drop p bytes))) [
    | inl inside ↦ omega (arith, get_or-take (first_size (drop p bytes)) (drop p bytes) k 0 inside, get_or-drop p bytes k 0, plain (p + k))
    | inr past ↦ omega (arith, get_or_past (message_at bytes p) k 0 (omega (arith, message_size, past)))
  ]

-- one more
pub flat_map-more : {X : Type 0} (f : X → List ℕ) (x : X) (ys : List X) → flat_map f (ys ++ (x ∷ [])) ≡ flat_map f ys ++ f x
flat_map-more f x ys = flat_map-append f ys (x ∷ []) ∙ ap (λ (s : List ℕ). flat_map f ys ++ s) (append-nil (f x))

-- ---- the lines of some items, and of others behind them

module _ (names : Names) (look : Look) (at : ℕ) (bytes : List ℕ) where
  pub lines-append : (r : Reach) (xs ys : List FoundItem) → lines_from names look at bytes r (xs ++ ys) ≡ lines_from names look at bytes r xs
      ++ lines_from names look at bytes (reach_all names look bytes r xs) ys
  lines-append r [] ys = refl
  lines-append r (x ∷ xs) ys =
      let s = reach_after names look bytes r x in
      let line = item_text names look s at bytes x in
      ap (λ (t : List ℕ). line ++ t) (lines-append s xs ys)
      ∙ sym (append_assoc line (lines_from names look at bytes s xs) (lines_from names look at bytes (reach_all names look bytes s xs) ys))

  -- one more
  pub lines-more : (r : Reach) (x : FoundItem) (xs : List FoundItem) → lines_from names look at bytes r (xs ++ (x ∷ [])) ≡ lines_from names look at bytes r xs
      ++ item_text names look (reach_after names look bytes (reach_all names look bytes r xs) x) at bytes x
  lines-more r x xs = lines-append r xs (x ∷ []) ∙ ap (λ (s : List ℕ). lines_from names look at bytes r xs ++ s)
      (append-nil (item_text names look (reach_after names look bytes (reach_all names look bytes r xs) x) at bytes x))

  pub reach-more : (r : Reach) (x : FoundItem) (xs : List FoundItem) → reach_all names look bytes r (xs ++ (x ∷ [])) ≡ reach_after names look bytes
      (reach_all names look bytes r xs) x
  reach-more r x [] = refl
  reach-more r x (y ∷ ys) = reach-more (reach_after names look bytes r y) x ys

module _ (names : Names) (task : Task) (bytes : List ℕ) where
  -- behind a beginning too
  back : (front more : List ℕ) → Continues names task bytes (front ++ more) → Continues names task bytes front
  back front more h = record {
    more = more ++ h.more;
    place = h.place;
    prints = subst (λ (s : List ℕ). Prints names task bytes s h.place) (append_assoc front more h.more) h.prints;
  }

  -- a message is whole, and the next one is due; or it has a fault
  here : (p : ℕ) (front : List ℕ) → Whole names task bytes p front → p < length bytes → (reported : List ℕ) (fault : Option Fault)
      → IsMessageText names task p (message_at bytes p) reported fault
      → (Whole names task bytes (p + length (message_at bytes p)) (front ++ reported) → Continues names task bytes (front ++ reported))
      → Continues names task bytes (front ++ reported)
  here p front whole lt reported fault tells further = by fault tells (is_taken task (message_at bytes p)) refl
    where
      -- it ends here
      breaks : (f : Option Fault) → IsMessageText names task p (message_at bytes p) reported f → (place : Place) → IsWrong task (message_at bytes p) p place f
          → Continues names task bytes (front ++ reported)
      breaks f tells place wrong =
          let breaks : Breaks names task bytes (front ++ reported) place =
          record { at = p; front = front; reported = reported; fault = f; whole = whole; left = lt; tells = tells; wrong = wrong; is = refl } in
          record { more = []; place = Some place; prints = rw (append-nil (front ++ reported)) breaks }

      by : (f : Option Fault) → IsMessageText names task p (message_at bytes p) reported f → (b : Bool) → is_taken task (message_at bytes p) ≡ b
          → Continues names task bytes (front ++ reported)
      by None tells true taken = further (whole_more p (p + length (message_at bytes p)) front (front ++ reported) reported whole lt tells taken refl refl)
      by None tells false other = breaks None tells (record { offset = p; tag = tag_there (message_at bytes p) 0; wrong = NotKmip })
          (not_taken other refl refl refl)
      by (Some f) tells b taken =
          breaks (Some f) tells (record { offset = p + f.offset; tag = tag_there (message_at bytes p) f.offset; wrong = Malformed f.kind })
          (malformed f refl refl refl)

  module _ (plain : (k : ℕ) → get_or bytes k 0 < 256) where
    -- all messages are whole
    all_whole : (p : ℕ) (front : List ℕ) → p ≡ length bytes → Whole names task bytes p front → Continues names task bytes front
    all_whole p front at whole = record { more = []; place = None; prints = rw (append-nil front, ← at) whole }

    -- one message more
    one_whole : (p : ℕ) (front : List ℕ) → p < length bytes → Whole names task bytes p front
        → ((text : List ℕ) → Whole names task bytes (p + length (message_at bytes p)) text → Continues names task bytes text) → Continues names task bytes front
    one_whole p front lt whole further =
        let message = message_at bytes p in
        let end : Ends message [] = ends message (message_plain bytes p lt plain) 0 [] [] (at_first refl refl refl) in
        let reported = message_text names task p message end.more end.fault end.ended in
        back front reported (here p front whole lt reported end.fault (record { found = end.more; ended = end.ended; is = refl }) (further (front ++ reported)))

    -- by how many bytes are left
    whole_by : (n p : ℕ) (front : List ℕ) → length bytes - p ≤ n → p ≤ length bytes → Whole names task bytes p front → Continues names task bytes front
    whole_by zero p front few le whole = all_whole p front (omega (arith, few, le)) whole
    whole_by (suc n) p front few le whole = elim (cases_lt p (length bytes)) [
      | inl lt ↦ one_whole p front lt whole (λ text next. whole_by n (p + length (message_at bytes p)) text (omega (arith, few, message_some bytes p lt))
          (message_within bytes p lt) next)
      | inr past ↦ all_whole p front (omega (arith, le, past)) whole
    ]

    -- behind whole messages
    pub whole_goes : (p : ℕ) (front : List ℕ) → p ≤ length bytes → Whole names task bytes p front → Continues names task bytes front
    whole_goes p front le whole = whole_by (length bytes - p) p front (omega arith) le whole

    -- behind a message, of which this is printed
    pub goes_behind : (p : ℕ) (front : List ℕ) → p < length bytes → Whole names task bytes p front → (t : List ℕ) (fault : Option Fault)
        → IsMessageText names task p (message_at bytes p) t fault → Continues names task bytes (front ++ t)
    goes_behind p front lt whole t fault tells =
        here p front whole lt t fault tells (λ next. whole_goes (p + length (message_at bytes p)) (front ++ t) (message_within bytes p lt) next)

module _ (names : Names) (look : Look) (bytes : List ℕ) (plain : (k : ℕ) → get_or bytes k 0 < 256) where
  -- behind the lines of the items that were met of a message
  pub items_go : (p : ℕ) (front : List ℕ) → p < length bytes → Whole names (Show look) bytes p front → (q : ℕ) (es : List ℕ) (xs : List FoundItem)
      → Meets (message_at bytes p) q es xs
      → Continues names (Show look) bytes (front ++ lines_from names look p (message_at bytes p) no_reach xs)
  items_go p front lt whole q es xs met =
      let message = message_at bytes p in
      let end : Ends message xs = ends message (message_plain bytes p lt plain) q es xs met in
      let first = lines_from names look p message no_reach xs in
      let rest = lines_from names look p message (reach_all names look message no_reach xs) end.more in
      let reported = lines_from names look p message no_reach (xs ++ end.more) in
      let is : (front ++ first) ++ rest ≡ front ++ reported = append_assoc front first rest
      ∙ ap (λ (s : List ℕ). front ++ s) (sym (lines-append names look p message no_reach xs end.more)) in
      let all : Continues names (Show look) bytes (front ++ reported) = goes_behind names (Show look) bytes plain p front lt whole reported end.fault
      (record { found = xs ++ end.more; ended = end.ended; is = refl }) in
      back names (Show look) bytes (front ++ first) rest (subst (Continues names (Show look) bytes) (sym is) all)
