-- How a run ends.
use Rattle.std.proofs.Common.{◌≡◌, ℕ, List, ◌++◌, Option, Some, None, Result, Ok, Err, OnOk, OnErr, length, inl, inr, sym, ap, ◌∙◌, subst, append-nil}
use Rattle.std.specs.Io.KnownBytes.{Appends, Keeps}
use Rattle.kmip_ttlv.specs.Streams.{AppendsFront, IsTight}
use Rattle.hex_to_txt_run.specs.{Inputs.TakesAll, TaskTexts.TaskPrints, TaskTexts.TaskFails}
use Rattle.hex_to_txt_run.specs.Reasons.{Reason, unknown_words, unreadable_input, not_hexadecimal, not_utf8, not_a_pair, unwritable_output, no_memory, line_of}
use Rattle.hex_to_txt_run.specs.Tasks.{Task, pair_task, readable_task, diagnostic_task, read_back_task}
use Rattle.hex_to_txt_run.specs.Runs.{Streams, Fails, Failed, Reports, HasNoText, Printed, Responds}

-- the line was written in full, or a beginning of it
reported : {T E : Type 0} (a b : Option (List ℕ)) (room : Option ℕ) (bytes : List ℕ) (r : Result T E) → OnOk r (Appends a b bytes)
    → OnErr r (AppendsFront a b bytes) → OnErr r (IsTight room (length bytes)) → Reports a room b bytes
reported a b room bytes (Ok x) all front tight = inl all
reported a b room bytes (Err e) all front tight = inr (front, tight)

pub failed : {T E : Type 0} (task : Option Task) (s : Streams) (why : Reason) (a b : Option (List ℕ)) (room : Option ℕ) (bytes : List ℕ) (r : Result T E)
    → Fails task s why → bytes ≡ line_of why → OnOk r (Appends a b bytes) → OnErr r (AppendsFront a b bytes) → OnErr r (IsTight room (length bytes))
    → Failed task s a room b
failed task s why a b room bytes r fails is all front tight = record {
  why = why;
  fails = fails;
  reported = subst (Reports a room b) is (reported a b room bytes r all front tight);
}

-- the input that was read has a text
no_text : (task : Task) (old new : Option (List ℕ)) (input text : List ℕ) → TakesAll old new input → TaskPrints task input text → HasNoText (Some task) old → ⊥
no_text task None new input text taken prints none = none
no_text task (Some known) None input text taken prints none = taken.taken
no_text task (Some known) (Some left) input text taken prints none =
    let whole : known ≡ input = taken.taken ∙ ap (λ l. input ++ l) taken.ended ∙ append-nil input in
    let P : List ℕ → Type 0 = λ l. TaskPrints task l text in
    none text (subst P (sym whole) prints)

-- if the input has no text, the output is unchanged
pub output_stays : (task : Option Task) (s : Streams) (why : Reason) → Fails task s why → HasNoText task s.input → Keeps s.output s.output_now
output_stays None s unknown_words fails none = fails.1
output_stays None s unreadable_input fails none = absurd fails
output_stays None s not_hexadecimal fails none = absurd fails
output_stays None s not_utf8 fails none = absurd fails
output_stays None s (not_a_pair line) fails none = absurd fails
output_stays None s unwritable_output fails none = absurd fails
output_stays None s no_memory fails none = absurd fails
output_stays (Some task) s unknown_words fails none = absurd fails
output_stays (Some task) s unreadable_input fails none = fails.1
output_stays (Some task) s not_hexadecimal fails none = fails.1
output_stays (Some task) s not_utf8 fails none = fails.1
output_stays (Some task) s (not_a_pair line) fails none = fails.1
output_stays (Some task) s unwritable_output fails none = absurd (no_text task s.input s.input_left fails.input fails.text fails.taken fails.prints none)
output_stays (Some task) s no_memory fails none = fails

-- if a text was printed, the input has a text
pub printed_some : (task : Option Task) (s : Streams) → Printed task s → HasNoText task s.input → ⊥
printed_some None s printed none = printed.prints
printed_some (Some task) s printed none = no_text task s.input s.input_left printed.input printed.text printed.taken printed.prints none

-- the input that was read has no text, and the output is unchanged
unprinted : (asked : Option Task) (task : Task) (s : Streams) (why : Reason) (input : List ℕ) → Some task ≡ asked → TakesAll s.input s.input_left input
    → TaskFails task input why → Keeps s.output s.output_now → Fails asked s why
unprinted asked task s why input is taken none kept = subst (λ (a : Option Task). Fails a s why) is (by_reason task why none)
  where
    by_reason : (task : Task) (why : Reason) → TaskFails task input why → Fails (Some task) s why
    by_reason task no_memory none = kept
    by_reason task not_hexadecimal none = (record { input = input; taken = taken; fails = none }, kept)
    by_reason task not_utf8 none = (record { input = input; taken = taken; fails = none }, kept)
    by_reason task (not_a_pair line) none = (record { input = input; taken = taken; fails = none }, kept)
    by_reason pair_task unknown_words none = absurd none
    by_reason readable_task unknown_words none = absurd none
    by_reason (diagnostic_task closed prefix) unknown_words none = absurd none
    by_reason (read_back_task prefix) unknown_words none = absurd none
    by_reason pair_task unreadable_input none = absurd none
    by_reason readable_task unreadable_input none = absurd none
    by_reason (diagnostic_task closed prefix) unreadable_input none = absurd none
    by_reason (read_back_task prefix) unreadable_input none = absurd none
    by_reason pair_task unwritable_output none = absurd none
    by_reason readable_task unwritable_output none = absurd none
    by_reason (diagnostic_task closed prefix) unwritable_output none = absurd none
    by_reason (read_back_task prefix) unwritable_output none = absurd none

-- the same, if this is the result
pub returned : {T E : Type 0} (reason : E → Reason) (asked : Option Task) (task : Task) (s : Streams) (e y : E) (input : List ℕ) (r : Result T E) → r ≡ Err y
    → y ≡ e → Some task ≡ asked → TakesAll s.input s.input_left input → TaskFails task input (reason e) → Keeps s.output s.output_now
    → Responds reason asked s r
returned {T} {E} reason asked task s e y input r is same task_is taken none kept =
    let fails = unprinted asked task s (reason e) input task_is taken none kept in
    subst (λ (q : Result T E). Responds reason asked s q) (sym is) (subst (λ (x : E). Fails asked s (reason x)) (sym same) fails)
