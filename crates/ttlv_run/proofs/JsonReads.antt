-- Values of JSON that come piece by piece, printed one after the other.
use Rattle.std.proofs.Common.{arith, ◌≡◌, ◌∙◌, inl, inr, ℕ, ◌+◌, ◌<◌, ◌≤◌, ◌^◌, Bool, true, false, List, [], ◌∷◌, ◌++◌, length, take, drop}
use Rattle.std.proofs.Common.{take-add, Option, Some, None, Ok, refl, ap, sym, subst, append_assoc, append-nil, length-append, take-append-drop}
use Rattle.std.specs.Io.KnownBytes.{Consumes, IsAtEnd, Keeps}
use Rattle.std.specs.{Prelude.IfSome, Str.IsUtf8}
use Rattle.std.proofs.KnownBytes.{Consumes-trans, Consumes-kept}
use Rattle.kmip_ttlv_types.specs.Held.{Held, Gets}
use Rattle.kmip_ttlv_types.proofs.Held.{gets_none, gets_both}
use Rattle.std.proofs.lemmas.List.{drop-drop, length-drop, take-append-le, drop-append-le}
use Rattle.std.proofs.lemmas.Str.{IsUtf8-append, IsUtf8-nil}
use Rattle.kmip_ttlv_json.specs.{declared.failure.JsonError.JsonError, Readings.error_offset}
use Rattle.ttlv_run.specs.{declared.run_error.RunError.RunError, declared.run_error.RunError.TheVariants.NotUtf8}
use Rattle.ttlv_run.specs.JsonEnds.{IsOpen, IsFirst, values_of}
use Rattle.ttlv_run.specs.{Inputs.IsUnread, Inputs.TakesSome, Runs.Streams, Runs.streams, Streaming.Yields}
use Rattle.ttlv_run.specs.JsonValues.{GivesValue, Spoils, PrintsBytes, FailsAt, no_value, one_more, GivesValues, NextValue}
use Rattle.ttlv_run.specs.JsonValues.{FaultsJson, UnwrittenJson, FailsJson}
use Rattle.ttlv_run.specs.{declared.run_error.RunError.TheVariants.NoMemory, Reasons.PrintsFront}
use Rattle.ttlv_run.specs.JsonValues.{RespondsJson, value_fault, fault_at}
use Rattle.ttlv_run.proofs.{Appending.prints_behind, Appending.memory_ended, Windows.Left, Windows.left_of}
use Rattle.ttlv_run.proofs.JsonParts.{first_of_values, only_value, whole_text}
use Rattle.ttlv_run.proofs.Decided.{printing_by, unread_by}

-- ---- values that were printed

gives_none : (raw : Bool) (bytes : List ℕ) → GivesValues raw bytes 0 []
gives_none raw bytes = record { within = omega arith; values = []; are = λ more. refl; is_text = IsUtf8-nil; give = no_value }

module _ {raw : Bool} {bytes : List ℕ} {place : ℕ} {text : List ℕ} (g : GivesValues raw bytes place text) where
  -- they stay the same, whatever comes behind them
  gives_longer : (more : List ℕ) → GivesValues raw (bytes ++ more) place text
  gives_longer more =
      let same = take-append-le place bytes more g.within in
      record {
        within = omega (arith, g.within, length-append bytes more);
        values = g.values;
        are = λ others. ap (λ (t : List ℕ). values_of (t ++ others)) same ∙ g.are others;
        is_text = subst IsUtf8 (sym same) g.is_text;
        give = g.give;
      }

  rest_behind : (left : List ℕ) → drop place (bytes ++ left) ≡ drop place bytes ++ left
  rest_behind left = drop-append-le place bytes left g.within

  -- all values
  all_values : (left : List ℕ) → values_of (bytes ++ left) ≡ g.values ++ values_of (drop place bytes ++ left)
  all_values left =
      ap (λ (t : List ℕ). values_of (t ++ left)) (sym (take-append-drop place bytes)) ∙ ap values_of (append_assoc (take place bytes) (drop place bytes) left)
      ∙ g.are (drop place bytes ++ left)

  -- the next one, with what ends it
  module _ {value : List ℕ} {size : ℕ} (f : IsFirst (drop place bytes) value size) where
    whole_is : take (place + size) bytes ≡ take place bytes ++ take size (drop place bytes)
    whole_is = take-add place size bytes

    rest_is : drop place bytes ≡ take size (drop place bytes) ++ drop (place + size) bytes
    rest_is = sym (take-append-drop size (drop place bytes)) ∙ ap (λ (t : List ℕ). take size (drop place bytes) ++ t) (drop-drop size place bytes)

    gives_value : (part : List ℕ) → IsUtf8 value → GivesValue raw value part → GivesValues raw bytes (place + size) (text ++ part)
    gives_value part u gives =
        let w = take size (drop place bytes) in
        record {
          within = omega (arith, f.within, f.some, length-drop place bytes, g.within);
          values = g.values ++ value ∷ [];
          are = λ more.
              ap (λ (t : List ℕ). values_of (t ++ more)) whole_is ∙ ap values_of (append_assoc (take place bytes) w more)
              ∙ g.are (w ++ more)
              ∙ ap (λ (vs : List (List ℕ)). g.values ++ vs) (first_of_values f.whole more) ∙ sym (append_assoc g.values (value ∷ []) (values_of more));
          is_text = subst IsUtf8 (sym whole_is) (IsUtf8-append (take place bytes) w g.is_text (whole_text f.whole u));
          give = one_more g.values (g.values ++ value ∷ []) value text part (text ++ part) g.give gives refl refl;
        }

    next_whole : (left : List ℕ) → NextValue (bytes ++ left) place value
    next_whole left =
        let more = drop (place + size) bytes in
        record {
          others = values_of (more ++ left);
          first = ap values_of (rest_behind left) ∙ ap (λ (t : List ℕ). values_of (t ++ left)) rest_is
              ∙ ap values_of (append_assoc (take size (drop place bytes)) more left) ∙ first_of_values f.whole (more ++ left);
        }

  -- or what is left
  next_last : (left : List ℕ) → left ≡ [] → IsOpen (drop place bytes) → NextValue (bytes ++ left) place (drop place bytes)
  next_last left none is_open = record {
    others = [];
    first = ap values_of (rest_behind left ∙ ap (λ (t : List ℕ). drop place bytes ++ t) none ∙ append-nil (drop place bytes))
        ∙ only_value (drop place bytes) is_open;
  }

-- a value is wrong within it
pub bad_within : (raw : Bool) {value : List ℕ} (mid new : Held) {error : JsonError} {found : Option JsonError} → found ≡ Some error
    → PrintsBytes raw value mid new found → error_offset error ≤ length value
bad_within raw {value} mid new is printed = (subst (PrintsBytes raw value mid new) is printed).1.0.within

pub end_within : (raw : Bool) {value : List ℕ} (mid new : Held) (place : ℕ) (error : Option JsonError) → PrintsBytes raw value mid new error
    → place + length value < 2 ^ 64 → IfSome error (λ e. place + error_offset e < 2 ^ 64)
end_within raw mid new place None printed fits = tt
end_within raw mid new place (Some e) printed fits = omega (arith, fits, printed.1.0.within)

-- ---- an input whose values are printed as they come

pub record JsonReading (raw : Bool) (known now : Option (List ℕ)) (output output_now : Held) (base at : ℕ) (bytes : List ℕ) : Type 0 where
  pub taken : List ℕ
  pub text : List ℕ
  pub consumed : Consumes known now taken
  pub are : drop base taken ≡ bytes
  pub gives : GivesValues raw taken (base + at) text
  pub appended : Gets output output_now text

pub json_starts : {raw : Bool} {known : Option (List ℕ)} {output : Held} → Consumes known known [] → JsonReading raw known known output output 0 0 []
json_starts {raw} {output = output} consumed =
    record { taken = []; text = []; consumed = consumed; are = refl; gives = gives_none raw []; appended = gets_none output }

module _ {raw : Bool} {known now : Option (List ℕ)} {output mid : Held} {base at : ℕ} {bytes : List ℕ}
    (p : JsonReading raw known now output mid base at bytes) where
  pub json_of : {b : List ℕ} → b ≡ bytes → JsonReading raw known now output mid base at b
  json_of is = subst (JsonReading raw known now output mid base at) (sym is) p

  long : length bytes + base ≡ length p.taken
  long = omega (arith, p.gives.within, ap (λ (t : List ℕ). length t) p.are, length-drop base p.taken)

  place_is : drop (base + at) p.taken ≡ drop at bytes
  place_is = sym (drop-drop at base p.taken) ∙ ap (drop at) p.are

  first_here : {value : List ℕ} {size : ℕ} → IsFirst (drop at bytes) value size → IsFirst (drop (base + at) p.taken) value size
  first_here {value} {size} f = subst (λ (t : List ℕ). IsFirst t value size) (sym place_is) f

  -- a value more
  pub json_value : {new : Held} {value : List ℕ} {size : ℕ} {error : Option JsonError} → IsFirst (drop at bytes) value size → error ≡ None
      → PrintsBytes raw value mid new error
      → JsonReading raw known now output new base (at + size) bytes
  json_value {new} {value} {size} f none printed =
      let here : base + at + size ≡ base + (at + size) = omega arith in
      let reported = subst (PrintsBytes raw value mid new) none printed in
      record {
        taken = p.taken;
        text = p.text ++ reported.1.0;
        consumed = p.consumed;
        are = p.are;
        gives = subst (λ (n : ℕ). GivesValues raw p.taken n (p.text ++ reported.1.0)) here (gives_value p.gives (first_here f) reported.1.0 reported.0
            reported.1.1);
        appended = gets_both p.text reported.1.0 p.appended reported.1.2;
      }

  -- the next value: a whole one, or what is left at the end
  abbrev Next : Bool → List ℕ → Type 0
  Next last value = (l : Left now last) × NextValue (p.taken ++ l.left) (base + at) value

  pub json_next : {value : List ℕ} {size : ℕ} → IsFirst (drop at bytes) value size → Next false value
  json_next f = let left = left_of now false (λ e. cc e) in (left, next_whole p.gives (first_here f) left.left)

  pub json_rest : {value : List ℕ} → value ≡ drop at bytes → IsOpen (drop at bytes) → IsAtEnd now → Next true value
  json_rest is one end =
      let l = left_of now true (λ _. end) in
      let next = next_last p.gives l.left (l.none refl) (subst IsOpen (sym place_is) one) in
      (l, subst (NextValue (p.taken ++ l.left) (base + at)) (place_is ∙ sym is) next)

  module _ (can_fail : Bool) (new : Held) where
    abbrev outcome : Streams
    outcome = streams can_fail known now output new

    same_text : Gets mid new [] → Gets output new p.text
    same_text none = subst (Gets output new) (append-nil p.text) (gets_both p.text [] p.appended none)

    -- the next value is bad, or no text, or fails
    module _ {last : Bool} {value : List ℕ} (n : (l : Left now last) × NextValue (p.taken ++ l.left) (base + at) value) where
      taken_some : TakesSome known now (p.taken ++ n.0.left)
      taken_some = record { front = p.taken; left = n.0.left; are = refl; taken = p.consumed; rest = n.0.are }

      pub json_bad : {error : JsonError} {found : Option JsonError} → found ≡ Some error → PrintsBytes raw value mid new found
          → FaultsJson raw outcome (value_fault (base + at) error)
      json_bad is printed =
          let reported = subst (PrintsBytes raw value mid new) is printed in
          record {
            input = p.taken ++ n.0.left;
            text = p.text;
            value = value;
            taken = taken_some;
            gives = gives_longer p.gives n.0.left;
            next = n.1;
            is_text = reported.0;
            bad = reported.1.0;
            place = refl;
            appended = same_text reported.1.1;
          }

      whole : values_of (p.taken ++ n.0.left) ≡ p.gives.values ++ value ∷ n.1.others
      whole = all_values p.gives n.0.left ∙ ap (λ (t : List ℕ). p.gives.values ++ values_of t) (sym (rest_behind p.gives n.0.left))
          ∙ ap (λ (ls : List (List ℕ)). p.gives.values ++ ls) n.1.first

      spoiled : (why : RunError) → Spoils raw why value mid new → UnwrittenJson raw outcome why
      spoiled why (inl h) = record {
        input = p.taken ++ n.0.left;
        front = p.gives.values ++ value ∷ [];
        rest = n.1.others;
        text = p.text ++ h.0;
        taken = taken_some;
        there = whole ∙ sym (append_assoc p.gives.values (value ∷ []) n.1.others);
        give = one_more p.gives.values (p.gives.values ++ value ∷ []) value p.text h.0 (p.text ++ h.0) p.gives.give h.1
            refl refl;
        appended = prints_behind p.text h.0 p.appended h.2;
      }
      spoiled why (inr (memory, none)) = record {
        input = p.taken ++ n.0.left;
        front = p.gives.values;
        rest = value ∷ n.1.others;
        text = p.text;
        taken = taken_some;
        there = whole;
        give = p.gives.give;
        appended = subst (λ (w : RunError). PrintsFront w output new p.text) (sym memory) (memory_ended p.text (same_text none));
      }

      pub json_fails : (why : RunError) → FailsAt raw value mid new why → FailsJson raw outcome why
      json_fails NotUtf8 reported = record {
        input = p.taken ++ n.0.left;
        place = base + at;
        text = p.text;
        value = value;
        taken = taken_some;
        gives = gives_longer p.gives n.0.left;
        next = n.1;
        no_text = reported.0;
        appended = same_text reported.1;
      }
      json_fails why reported =
          printing_by (λ why. UnwrittenJson raw outcome why → FailsJson raw outcome why) reported.0 (λ u. u) (λ u. u) (λ u. u) (spoiled why reported.1)

    -- the input ended behind a value
    pub json_ended : {value : List ℕ} → value ≡ drop at bytes → IsOpen (drop at bytes) → IsAtEnd now → (error : Option JsonError)
        → PrintsBytes raw value mid new error
        → RespondsJson raw outcome (Ok (fault_at (base + at) error))
    json_ended {value} is one end None reported =
        let rest : value ≡ drop (base + at) p.taken = is ∙ sym place_is in
        let open_rest : IsOpen (drop (base + at) p.taken) = subst IsOpen (sym place_is) one in
        let all : values_of p.taken ≡ p.gives.values ++ value ∷ [] =
        ap values_of (sym (append-nil p.taken)) ∙ all_values p.gives []
        ∙ ap (λ (t : List ℕ). p.gives.values ++ values_of t) (append-nil (drop (base + at) p.taken))
        ∙ ap (λ (ls : List (List ℕ)). p.gives.values ++ ls) (only_value (drop (base + at) p.taken) open_rest)
        ∙ ap (λ (t : List ℕ). p.gives.values ++ t ∷ []) (sym rest) in
        record {
          input = p.taken;
          text = p.text ++ reported.1.0;
          taken = record { taken = p.consumed; ended = end };
          is_text = subst IsUtf8 (take-append-drop (base + at) p.taken) (IsUtf8-append (take (base + at) p.taken) (drop (base + at) p.taken) p.gives.is_text
              (subst IsUtf8 rest reported.0));
          give = one_more p.gives.values (values_of p.taken) value p.text reported.1.0 (p.text ++ reported.1.0)
              p.gives.give reported.1.1 all refl;
          appended = gets_both p.text reported.1.0 p.appended reported.1.2;
        }
    json_ended is one end (Some error) reported = json_bad (json_rest is one end) refl reported

  -- more bytes came
  pub json_came : {next : Option (List ℕ)} {before after : List ℕ} → before ≡ drop at bytes → Yields now next before after
      → JsonReading raw known next output mid (base + at) 0 after
  json_came {next} is yields =
      let here : base + at ≡ base + at + 0 = omega arith in
      record {
        taken = p.taken ++ yields.came;
        text = p.text;
        consumed = Consumes-trans known now next p.taken yields.came p.consumed yields.consumed;
        are = rest_behind p.gives yields.came ∙ ap (λ (t : List ℕ). t ++ yields.came) (place_is ∙ sym is) ∙ sym yields.are;
        gives = subst (λ (n : ℕ). GivesValues raw (p.taken ++ yields.came) n p.text) here (gives_longer p.gives yields.came);
        appended = p.appended;
      }

  -- nothing more was printed
  pub json_no_memory : {can_fail : Bool}
      → UnwrittenJson raw (streams can_fail known now output mid) NoMemory
  json_no_memory =
      let l = left_of now false (λ e. cc e) in
      record {
        input = p.taken ++ l.left;
        front = p.gives.values;
        rest = values_of (drop (base + at) p.taken ++ l.left);
        text = p.text;
        taken = record { front = p.taken; left = l.left; are = refl; taken = p.consumed; rest = l.are };
        there = all_values p.gives l.left;
        give = p.gives.give;
        appended = memory_ended p.text p.appended;
      }

  unread : (can_fail : Bool) → IsOpen (drop at bytes) → (why : RunError) → IsUnread can_fail why
      → FailsJson raw (streams can_fail known now output mid) why
  unread can_fail one why h =
      unread_by (FailsJson raw (streams can_fail known now output mid)) why h (λ can. (
        can,
        record {
          bytes = p.taken;
          place = base + at;
          text = p.text;
          taken = p.consumed;
          gives = p.gives;
          is_open = subst IsOpen (sym place_is) one;
          appended = p.appended;
        },
      )) json_no_memory

-- reading failed, or memory ran out for it
pub json_read_fails : {raw : Bool} (can_fail : Bool) {known now : Option (List ℕ)} (next : Option (List ℕ)) {output mid : Held} {base at : ℕ}
    {bytes : List ℕ} → JsonReading raw known now output mid base at bytes → IsOpen (drop at bytes) → Keeps now next
    → (why : RunError) → IsUnread can_fail why
    → FailsJson raw (streams can_fail known next output mid) why
json_read_fails {raw} can_fail {known} {now} next {output} {mid} {base} {at} {bytes} p one keeps why h =
    let still : JsonReading raw known next output mid base at bytes = record {
      taken = p.taken;
      text = p.text;
      consumed = Consumes-kept known now next p.taken p.consumed keeps;
      are = p.are;
      gives = p.gives;
      appended = p.appended;
    } in
    unread still can_fail one why h
