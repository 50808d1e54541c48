-- How printing an input's messages ends.
use Rattle.std.specs.Prelude.{◌≡◌, ◌⊎◌, ℕ, Bool, true, false, List, None, Result, Ok, Err}
use Rattle.kmip_ttlv_types.specs.Held.{Held, Rests, Says}
use Rattle.ttlv_run.specs.declared.job.Job.{Job}
use Rattle.ttlv_run.specs.declared.run_error.RunError.{RunError}
use Rattle.ttlv_run.specs.Runs.{Streams, Printed, Breaks, Fails}
use Rattle.ttlv_run.specs.Texts.{Names}
use Rattle.ttlv_run.specs.Traffic.{Took, WholePackets, TroubledPackets, FailsPackets}

-- an input's messages were printed, or those of a packet capture
abbrev pub IsWholePrint : Names → Job → Streams → Type 0
IsWholePrint names job s = (Took job.encoding s None × Printed names job s) ⊎ WholePackets names job s

abbrev pub IsMalformedPrint : Names → Job → Streams → List ℕ → Type 0
IsMalformedPrint names job s line = (Took job.encoding s None × Breaks names job s line) ⊎ TroubledPackets names job s line

-- an input is no packet capture, or nothing was printed of it
abbrev pub IsAlone : Job → Streams → Type 0
IsAlone job s = Took job.encoding s None ⊎ Rests s.output s.output_now

abbrev pub EndsPrint : Names → Job → Streams → RunError → Type 0
EndsPrint names job s why = (IsAlone job s × Fails names job s why) ⊎ FailsPackets names job s why

-- what came of an input that is no packet capture
abbrev pub RespondsAlone : Names → Job → Streams → Held → Held → Result Bool RunError → Type 0
RespondsAlone names job s errors errors_now (Ok true) = Printed names job s × (errors_now ≡ errors)
RespondsAlone names job s errors errors_now (Ok false) = (line : List ℕ) × Breaks names job s line × Says errors errors_now line
RespondsAlone names job s errors errors_now (Err why) = Fails names job s why × (errors_now ≡ errors)

-- or of any that is to be printed
abbrev pub RespondsPrint : Names → Job → Streams → Held → Held → Result Bool RunError → Type 0
RespondsPrint names job s errors errors_now (Ok true) = IsWholePrint names job s × (errors_now ≡ errors)
RespondsPrint names job s errors errors_now (Ok false) = (line : List ℕ) × IsMalformedPrint names job s line × Says errors errors_now line
RespondsPrint names job s errors errors_now (Err why) = EndsPrint names job s why × (errors_now ≡ errors)
