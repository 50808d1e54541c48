-- What is known of an input of which nothing was printed yet, and of a fault whose line there was no memory for.
use Rattle.std.proofs.Common.{◌≡◌, inl, ℕ, Bool, List, [], ◌++◌, length, Some, Option, ap, sym, subst, ◌∙◌, append-nil}
use Rattle.std.specs.Io.KnownBytes.{Consumes}
use Rattle.std.proofs.lemmas.Bool.{lt-ltb}
use Rattle.kmip_ttlv_types.specs.Held.{Held}
use Rattle.kmip_ttlv_types.proofs.Held.{rests}
use Rattle.ttlv_run.specs.declared.run_error.RunError.TheVariants.{NoMemory}
use Rattle.ttlv_run.specs.{declared.job.Job.Job, declared.messages.Place.Place, declared.run_error.RunError.RunError, Fronts.front_size, Fronts.BeginFails}
use Rattle.ttlv_run.specs.{Inputs.IsUnread, Texts.Names}
use Rattle.ttlv_run.specs.Runs.{Streams, streams, Faults, Unwritten, FrontsIf, Fails}
use Rattle.ttlv_run.proofs.{Appending.memory_ended, Decided.unread_by}

-- a fault whose line there was no memory for
pub line_lost : {names : Names} {job : Job} {s : Streams} {place : Place} → Faults names job s place → Unwritten names job s NoMemory
line_lost {names} {job} {s} {place} h = record {
  input = h.input;
  bytes = h.bytes;
  last = h.last;
  text = h.text;
  taken = h.taken;
  stands = h.stands;
  continues = λ more none others. record { more = []; place = Some place; prints = rw (append-nil h.text) (h.prints more none) };
  appended = memory_ended h.text h.appended;
}

-- reading failed before the encoding was decided
pub begin_fails : (names : Names) (job : Job) (can_fail : Bool) {old new : Option (List ℕ)} (output : Held) {before after : List ℕ} → before ≡ []
    → BeginFails job.encoding old new before after → (why : RunError) → IsUnread can_fail why
    → Fails names job (streams can_fail old new output output) why
begin_fails names job can_fail {old} {new} output {before} {after} none fails why h =
    unread_by (Fails names job (streams can_fail old new output output)) why h (λ can. (
      can,
      record {
        bytes = after;
        taken = subst (Consumes old new) (sym (fails.yields.are ∙ ap (λ (t : List ℕ). t ++ fails.yields.came) none)) fails.yields.consumed;
        fronts = subst (λ (b : Bool). FrontsIf b names job after output output) (sym (lt-ltb (length after) (front_size job.encoding after) fails.few))
            (rests output);
      },
    )) (inl (rests output))
