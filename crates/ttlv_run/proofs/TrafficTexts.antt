-- What was printed of a packet capture, message by message.
use Rattle.std.proofs.Common.{arith, ◌≡◌, ◌∙◌, inl, inr, ℕ, ◌+◌, ◌<◌, ◌≤◌, Bool, true, false, List}
use Rattle.std.proofs.Common.{[], ◌∷◌, ◌++◌, length, take, get_or, Option, Some, None, Result, Ok, Err}
use Rattle.std.proofs.Common.{refl, ap, sym, subst, append-nil, add-one}
use Rattle.std.proofs.Math.Seq.{take-length, take-suc}
use Rattle.std.specs.Io.KnownBytes.{Consumes, IsAtEnd}
use Rattle.std.proofs.KnownBytes.{Consumes-trans}
use Rattle.kmip_ttlv_items.specs.ItemWalks.{AreBytes}
use Rattle.kmip_ttlv_types.specs.Held.{Held, Gets, Rests}
use Rattle.kmip_ttlv_types.proofs.Held.{gets_none, gets_both, rests}
use Rattle.kmip_ttlv_util.specs.Pieces.{SomeText}
use Rattle.ttlv_packets.specs.declared.message.Message.{Message}
use Rattle.ttlv_run.specs.declared.{job.Job.Job, messages.Place.Place}
use Rattle.ttlv_run.specs.declared.{messages.Reached.Reached, run_error.RunError.RunError, run_error.RunError.TheVariants.NoMemory}
use Rattle.ttlv_run.specs.declared.{messages.Reached.TheVariants.Behind, messages.Reached.TheVariants.Fault as AtFault}
use Rattle.ttlv_packets.specs.Captures.{IsRead}
use Rattle.ttlv_run.specs.{Ends.Responds, Prints.RespondsAlone, Prints.RespondsPrint}
use Rattle.ttlv_run.specs.declared.job.Asked.TheVariants.{Print}
use Rattle.ttlv_run.specs.declared.job.Encoding.{Encoding}
use Rattle.ttlv_run.specs.Fronts.{front_size}
use Rattle.ttlv_run.specs.Inputs.{TakesAll, IsUnread, encoding_of, port_of}
use Rattle.ttlv_run.specs.Messages.{Whole, whole_none, Prints, Continues}
use Rattle.ttlv_run.specs.Reasons.{IsOfPrinting, PrintsFront}
use Rattle.ttlv_run.specs.Streaming.{StandsAt, EndsAt, PrintsOn, ContinuesBehind, Yields, YieldsAll}
use Rattle.ttlv_run.specs.Runs.{Streams, streams}
use Rattle.ttlv_run.specs.Texts.{Names}
use Rattle.ttlv_run.specs.Traffic.{message_bytes, head, trouble, noted, no_notes, Notes, PrintsMessage, BreaksMessage, in_lines, PrintsAll, of_none, of_more}
use Rattle.ttlv_run.specs.Traffic.{Decides, PrintsPackets, BreaksPackets, UnwrittenPackets, FailsPackets, HasPackets, Took, RespondsPackets}
use Rattle.ttlv_run.proofs.{Appending.prints_behind, Appending.memory_ended, Decided.printing_by, Decided.unread_by}

-- bytes alone
alone_there : (m : List ℕ) → StandsAt m 0 m true
alone_there m = record { more = []; within = omega arith; are = sym (append-nil m); ends = λ _. refl }

-- where printing them ended
abbrev pub fault_in : Reached → Option Place
fault_in (Behind count) = None
fault_in (AtFault place) = Some place

ended_by : (names : Names) (job : Job) (m : List ℕ) (reached : Reached) (t : List ℕ) → EndsAt m true reached → PrintsOn names job.task 0 m true reached t
    → Prints names job.task m t (fault_in reached)
ended_by names job m (Behind count) t end prints = let all : 0 + count ≡ length m = omega (arith, end) in
    subst (λ (k : ℕ). Whole names job.task m k t) all (prints m [] (alone_there m) whole_none)
ended_by names job m (AtFault place) t end prints = prints m [] (alone_there m) whole_none

-- a message was printed, behind its line
pub message_done :
    (names : Names) (job : Job) (bytes : List ℕ) (m : Message) {old mid now : Held} (alone : List ℕ) (reached : Reached)
    → alone ≡ message_bytes bytes m → Gets old mid (head job.task m) → EndsAt alone true reached
    → SomeText (PrintsOn names job.task 0 alone true reached) (Gets mid now)
    → SomeText (λ t. PrintsMessage names job bytes m t (fault_in reached)) (Gets old now)
message_done names job bytes m {old} {mid} {now} alone reached is first end some = record {
  text = head job.task m ++ some.text;
  is = record {
    lines = some.text;
    prints = subst (λ (b : List ℕ). Prints names job.task b some.text (fault_in reached)) is (ended_by names job alone reached some.text end some.is);
    is = refl;
  };
  holds = gets_both (head job.task m) some.text first some.holds;
}

-- or a beginning of it
pub message_broken :
    (names : Names) (job : Job) (bytes : List ℕ) (m : Message) {old mid now : Held} {why : RunError} (alone : List ℕ)
    → alone ≡ message_bytes bytes m → Gets old mid (head job.task m) → AreBytes alone
    → SomeText (ContinuesBehind names job.task 0 alone true) (PrintsFront why mid now)
    → SomeText (BreaksMessage names job bytes m) (PrintsFront why old now)
message_broken names job bytes m {old} {mid} {now} {why} alone is first plain some = record {
  text = head job.task m ++ some.text;
  is = in_lines some.text
      (subst (λ (b : List ℕ). Continues names job.task b some.text) is (some.is alone [] (alone_there alone) plain whole_none)) refl;
  holds = prints_behind (head job.task m) some.text first some.holds;
}

take_one : (ms : List Message) (i : ℕ) (d : Message) → i < length ms → take (i + 1) ms ≡ take i ms ++ get_or ms i d ∷ []
take_one ms i d h = rw (add-one i) (take-suc ms i d h)

-- nothing was printed
pub packets_none : (names : Names) (job : Job) (bytes : List ℕ) (ms : List Message) (a : Held) {n : Notes} → n ≡ no_notes
    → PrintsPackets names job bytes (take 0 ms) a a n
packets_none names job bytes ms a {n} is =
    subst (PrintsPackets names job bytes (take 0 ms) a a) (sym is) (record { text = []; prints = of_none; appended = gets_none a })

-- one more message was
pub packets_more :
    (names : Names) (job : Job) (bytes : List ℕ) (ms : List Message) (i : ℕ) (d : Message) {old mid now : Held} {notes after : Notes} {place : Option Place}
    → i < length ms → PrintsPackets names job bytes (take i ms) old mid notes
    → SomeText (λ t. PrintsMessage names job bytes (get_or ms i d) t place) (Gets mid now)
    → after ≡ noted notes (trouble names job (get_or ms i d) place)
    → PrintsPackets names job bytes (take (i + 1) ms) old now after
packets_more names job bytes ms i d {old} {mid} {now} {notes} {after} {place} lt so_far some is =
    let m = get_or ms i d in
    let all : PrintsAll names job bytes (take i ms ++ m ∷ []) (so_far.text ++ some.text) (noted notes (trouble names job m place)) =
    of_more (take i ms) m so_far.text some.text notes place so_far.prints some.is in
    record {
      text = so_far.text ++ some.text;
      prints = subst (λ (k : List Message). PrintsAll names job bytes k (so_far.text ++ some.text) after) (sym (take_one ms i d lt))
          (subst (PrintsAll names job bytes (take i ms ++ m ∷ []) (so_far.text ++ some.text)) (sym is) all);
      appended = gets_both so_far.text some.text so_far.appended some.holds;
    }

-- or not
pub packets_broken :
    (names : Names) (job : Job) (bytes : List ℕ) (ms : List Message) (i : ℕ) (m : Message) {old mid now : Held} {notes : Notes} {why : RunError}
    → PrintsPackets names job bytes (take i ms) old mid notes → IsOfPrinting why
    → SomeText (BreaksMessage names job bytes m) (PrintsFront why mid now)
    → BreaksPackets names job bytes ms old now why
packets_broken names job bytes ms i m {old} {mid} {now} {notes} {why} so_far of some = record {
  count = i;
  text = so_far.text;
  notes = notes;
  part = some.text;
  of_printing = of;
  prints = so_far.prints;
  begun = inr (m, some.is);
  appended = prints_behind so_far.text some.text so_far.appended some.holds;
}

-- memory ran out behind some
pub packets_lost :
    (names : Names) (job : Job) (bytes : List ℕ) (ms : List Message) (i : ℕ) {old now : Held} {notes : Notes}
    → PrintsPackets names job bytes (take i ms) old now notes → BreaksPackets names job bytes ms old now NoMemory
packets_lost names job bytes ms i {old} {now} {notes} so_far = record {
  count = i;
  text = so_far.text;
  notes = notes;
  part = [];
  of_printing = inr (inr refl);
  prints = so_far.prints;
  begun = inl refl;
  appended = subst (PrintsFront NoMemory old now) (sym (append-nil so_far.text)) (memory_ended so_far.text so_far.appended);
}

pub packets_all : (names : Names) (job : Job) (bytes : List ℕ) (ms : List Message) {old now : Held} {notes : Notes}
    → PrintsPackets names job bytes ms old now notes → PrintsPackets names job bytes (take (length ms) ms) old now notes
packets_all names job bytes ms {old} {now} {notes} h =
    subst (λ (k : List Message). PrintsPackets names job bytes k old now notes) (sym (take-length ms)) h

-- the first bytes decide what an input is, if they aren't all
pub decides_by :
    (ended : Bool) (e : Encoding) (left : Option (List ℕ)) (front : List ℕ) → (ended ≡ false → front_size e front ≤ length front)
    → (ended ≡ true → IsAtEnd left) → Decides e left front
decides_by false e left front enough end = inr (enough refl)
decides_by true e left front enough end = inl (end refl)

-- why a run over a capture fails whose messages were not all printed
pub unwritten_packets : {names : Names} {job : Job} {s : Streams} {why : RunError} → IsOfPrinting why → UnwrittenPackets names job s why
    → FailsPackets names job s why
unwritten_packets {names} {job} {s} is h =
    printing_by (λ why. UnwrittenPackets names job s why → FailsPackets names job s why) is (λ h. h) (λ h. h) (λ h. inr h) h

-- or that was not read to its end
pub unread_packets :
    (names : Names) (job : Job) (can_fail : Bool) (port : ℕ) (known old new : Option (List ℕ)) (output : Held) (front : List ℕ)
    → Consumes known old front → Decides job.encoding old front → port_of (encoding_of job.encoding front) ≡ Some port
    → (why : RunError) → IsUnread can_fail why
    → FailsPackets names job (streams can_fail known new output output) why
unread_packets names job can_fail port known old new output front taken decides is why h =
    unread_by (FailsPackets names job (streams can_fail known new output output)) why h
    (λ can. (can, ((port, record { front = front; left = old; taken = taken; decides = decides; port_is = is }), rests output))) (inl (rests output))

-- all of an input was taken
pub took_all : {known old new : Option (List ℕ)} {before after : List ℕ} → Consumes known old before → YieldsAll old new before after → TakesAll known new after
took_all {known} {old} {new} {before} {after} h all = record {
  taken = subst (Consumes known new) (sym all.yields.are) (Consumes-trans known old new before all.yields.came h all.yields.consumed);
  ended = all.ended;
}

-- what a capture carries
abbrev pub has_of :
    (job : Job) (s : Streams) (port : ℕ) {before : List ℕ} {old : Option (List ℕ)} (input capture bytes shown : List ℕ)
    (messages listed : List Message) (end : ℕ)
    → Consumes s.input old before → Decides job.encoding old before → port_of (encoding_of job.encoding before) ≡ Some port
    → YieldsAll old s.input_left before input
    → capture ≡ input → shown ≡ bytes → listed ≡ messages → IsRead capture port bytes messages end
    → HasPackets job s
has_of job s port {before} {old} input capture bytes shown messages listed end taken decides is all same of_bytes of_messages read =
    let P = λ (b : List ℕ). IsRead capture port b listed end in
    let Q = λ (m : List Message). IsRead capture port bytes m end in
    record {
      port = port;
      took = record { front = before; left = old; taken = taken; decides = decides; port_is = is };
      input = capture;
      taken = subst (TakesAll s.input s.input_left) (sym same) (took_all taken all);
      bytes = shown;
      messages = listed;
      end = end;
      read = subst P (sym of_bytes) (subst Q (sym of_messages) read);
    }

-- what came of it is what came of an input
pub by_packets : (names : Names) (job : Job) (s : Streams) (errors errors_now : Held) (r : Result Bool RunError)
    → RespondsPackets names job s errors errors_now r → RespondsPrint names job s errors errors_now r
by_packets names job s errors errors_now (Ok true) h = (inr h.0, h.1)
by_packets names job s errors errors_now (Ok false) h = (h.0, inr h.1, h.2)
by_packets names job s errors errors_now (Err why) h = (inr h.0, h.1)

-- and so is that of one that is no capture
pub by_messages : (names : Names) (job : Job) (s : Streams) (errors errors_now : Held) (r : Result Bool RunError) → Took job.encoding s None
    → RespondsAlone names job s errors errors_now r → RespondsPrint names job s errors errors_now r
by_messages names job s errors errors_now (Ok true) took h = (inl (took, h.0), h.1)
by_messages names job s errors errors_now (Ok false) took h = (h.0, inl (took, h.1), h.2)
by_messages names job s errors errors_now (Err why) took h = (inl (inl took, h.0), h.1)

-- all that was read are the first bytes
pub came_first : {old new : Option (List ℕ)} {before after : List ℕ} → before ≡ [] → Yields old new before after → Consumes old new after
came_first {old} {new} none yields =
    subst (Consumes old new) (sym (yields.are ∙ ap (λ (t : List ℕ). t ++ yields.came) none)) yields.consumed

-- and that is what was asked
pub of_print : (names : Names) (job : Job) (s : Streams) (errors errors_now : Held) (r : Result Bool RunError)
    → RespondsPrint names job s errors errors_now r → Responds names (Print job.task job.encoding) job.name s errors errors_now r
of_print names job s errors errors_now (Ok true) h = (h.0, subst (Rests errors) (sym h.1) (rests errors))
of_print names job s errors errors_now (Ok false) h = h
of_print names job s errors errors_now (Err why) h = h
