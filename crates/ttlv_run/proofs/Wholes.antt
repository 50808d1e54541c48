-- What is printed of a whole message alone is what else is printed of it.
use Rattle.std.proofs.Common.{◌≡◌, ℕ, Bool, List, Option, Some, None}
use Rattle.kmip_ttlv_items.specs.declared.found.Fault.{Fault}
use Rattle.kmip_ttlv_items.specs.ItemWalks.{Judges}
use Rattle.kmip_ttlv_json.specs.Printings.{secrets_of, shown_of, IsJson}
use Rattle.kmip_ttlv_json.specs.declared.print.Hiding.{Hiding}
use Rattle.ttlv_run.specs.declared.job.{Task.TheVariants.Show, Strict.Strict, Look.Look}
use Rattle.ttlv_run.specs.declared.job.Task.TheVariants.{Whole as OfWhole}
use Rattle.ttlv_run.specs.declared.job.Strict.TheVariants.{Show as ShowWhole, Json as JsonWhole}
use Rattle.ttlv_run.specs.Texts.{Names, style_in, IsMessageText}

-- its lines
pub whole_lines : (names : Names) (at : ℕ) (m : List ℕ) (look : Look) (strict : Strict) → strict ≡ ShowWhole look → Judges m None
    → (t : List ℕ) (fault : Option Fault) → IsMessageText names (Show look) at m t fault → IsMessageText names (OfWhole strict) at m t fault
whole_lines names at m look strict is judged t None h = rw is (record { found = h.found; ended = h.ended; is = h.is })
whole_lines names at m look strict is judged t (Some f) h = absurd (h.ended.1 judged.found judged.ended)

-- its JSON
pub whole_json : (names : Names) (at : ℕ) (m : List ℕ) (hiding : Hiding) (named : Bool) (strict : Strict) → strict ≡ JsonWhole hiding named → Judges m None
    → (t : List ℕ) (fault : Option Fault) → IsJson (style_in named) (secrets_of hiding names.secrets) (shown_of hiding) m t fault
    → IsMessageText names (OfWhole strict) at m t fault
whole_json names at m hiding named strict is judged t None h = rw is (record { found = h.found; ended = h.ended; is = h.is })
whole_json names at m hiding named strict is judged t (Some f) h = absurd (h.ended.1 judged.found judged.ended)
