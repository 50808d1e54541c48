-- What is printed of messages goes on behind each beginning, and what was added where printing failed is a beginning of it.
use Rattle.std.proofs.Common.{◌≡◌, ◌<◌, ℕ, Bool, List, [], ◌++◌, get_or, inl, inr, Option, Result, Ok, Err, IfOk, OnErr, ap, sym, refl, subst, ◌∙◌}
use Rattle.kmip_ttlv_items.specs.declared.found.{FoundItem.FoundItem, Fault.Fault}
use Rattle.kmip_ttlv_items.specs.ItemWalks.{Meets, at_first, Ended, Ends}
use Rattle.kmip_ttlv_items.proofs.Completes.{ends}
use Rattle.std.specs.declared.io.Error.{Error as IoFault}
use Rattle.kmip_ttlv_types.specs.Held.{Held}
use Rattle.kmip_ttlv_util.specs.Pieces.{SomeText, WritesFront}
use Rattle.ttlv_run.specs.declared.run_error.RunError.{RunError}
use Rattle.ttlv_run.specs.Reasons.{IsOfError, PrintsFront}
use Rattle.ttlv_run.specs.declared.job.{Task.Task, Task.TheVariants.Show, Task.TheVariants.Json, Look.Look}
use Rattle.kmip_ttlv_json.specs.declared.print.Hiding.{Hiding}
use Rattle.kmip_ttlv_json.specs.Printings.{secrets_of, shown_of, IsJson}
use Rattle.ttlv_run.specs.Texts.{Names, style_in, no_reach, reach_all, lines_from, message_text, IsMessageText}
use Rattle.ttlv_run.proofs.Completion.{lines-append}

-- it failed
pub err_holds : {T E : Type 0} (r : Result T E) (P : Type 0) → P → OnErr r P
err_holds (Ok x) P h = tt
err_holds (Err e) P h = h

-- what a task prints of a message, up to some fault or to its end
abbrev pub Decided : Names → Task → ℕ → List ℕ → List ℕ → Type 0
Decided names task at bytes t = (fault : Option Fault) × IsMessageText names task at bytes t fault

-- a task prints the same of a message, whatever it holds
abbrev pub IsAlways : Names → Task → ℕ → List ℕ → List ℕ → Type 0
IsAlways names task at bytes t = (found : List FoundItem) (fault : Option Fault) (ended : Ended bytes found fault)
    → message_text names task at bytes found fault ended ≡ t

-- what is printed of it as JSON
pub json_lines_of : (names : Names) (at : ℕ) (bytes : List ℕ) (hiding : Hiding) (named : Bool) (task : Task) → task ≡ Json hiding named
    → (t : List ℕ) (fault : Option Fault) → IsJson (style_in named) (secrets_of hiding names.secrets) (shown_of hiding) bytes t fault
    → IsMessageText names task at bytes t fault
json_lines_of names at bytes hiding named task is t fault h = record {
  found = h.found;
  ended = h.ended;
  is = h.is ∙ sym (ap (λ (task : Task). message_text names task at bytes h.found fault h.ended) is);
}

-- whatever a task prints of it
pub decided_any : {names : Names} {at : ℕ} {bytes t : List ℕ} {task : Task} → ((k : ℕ) → get_or bytes k 0 < 256) → IsAlways names task at bytes t
    → Decided names task at bytes t
decided_any {bytes = bytes} plain is =
    let end : Ends bytes [] = ends bytes plain 0 [] [] (at_first refl refl refl) in
    (end.fault, record { found = end.more; ended = end.ended; is = sym (is end.more end.fault end.ended) })

-- whatever it is, a task prints something of a message
pub decided_some : (names : Names) (task : Task) (at : ℕ) (bytes : List ℕ) → ((k : ℕ) → get_or bytes k 0 < 256)
    → (t : List ℕ) × Decided names task at bytes t
decided_some names task at bytes plain =
    let end : Ends bytes [] = ends bytes plain 0 [] [] (at_first refl refl refl) in
    (message_text names task at bytes end.more end.fault end.ended, (end.fault, record { found = end.more; ended = end.ended; is = refl }))

-- a sink failed in the lines of the items that were met, or behind them
pub broken_lines : {X : Type 0} {names : Names} {at : ℕ} {bytes w : List ℕ} {look : Look} {q : ℕ} {es : List ℕ} {xs : List FoundItem}
    (breaks : X → List ℕ → X → Type 0) (a b : X)
    → ((a b : X) (s t : List ℕ) → breaks a s b → breaks a (s ++ t) b)
    → ((k : ℕ) → get_or bytes k 0 < 256)
    → w ≡ bytes
    → Meets w q es xs
    → breaks a (lines_from names look at bytes no_reach xs) b
    → SomeText (Decided names (Show look) at bytes) (λ t. breaks a t b)
broken_lines {names = names} {at} {bytes} {look = look} {q} {es} {xs} breaks a b first plain is met h =
    let end : Ends bytes xs = ends bytes plain q es xs (subst (λ (s : List ℕ). Meets s q es xs) is met) in
    let all = xs ++ end.more in
    record {
      text = lines_from names look at bytes no_reach xs ++ lines_from names look at bytes (reach_all names look bytes no_reach xs) end.more;
      is = (end.fault, record { found = all; ended = end.ended; is = sym (lines-append names look at bytes no_reach xs end.more) });
      holds = first a b _ _ h;
    }

-- ---- pieces over a sink

-- what holds of a result holds of another kind
pub ok_so : {T E : Type 0} (r : Result T E) {P Q : T → Type 0} → IfOk r P → ((x : T) → P x → Q x) → IfOk r Q
ok_so (Ok x) h f = f x h
ok_so (Err e) h f = tt

pub ok_all : {T E : Type 0} (r : Result T E) {Q : T → Type 0} → ((x : T) → Q x) → IfOk r Q
ok_all (Ok x) f = f x
ok_all (Err e) f = tt

-- what was written in part, for this reason
pub printed_front : {e : IoFault} {why : RunError} {old new : Held} {text : List ℕ} → IsOfError e why → WritesFront old new e text
    → PrintsFront why old new text
printed_front of h = record { appended = h.appended; reason = elim h.why [ inl tight ↦ inr tight | inr memory ↦ inl (of.1 memory.0) ] }

-- where printing failed
pub printed_text : {broken : List ℕ → Type 0} {e : IoFault} {why : RunError} {old new : Held} → IsOfError e why → SomeText broken (WritesFront old new e)
    → SomeText broken (PrintsFront why old new)
printed_text of w = record { text = w.text; is = w.is; holds = printed_front of w.holds }
