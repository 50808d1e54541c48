-- How a run over an input ends, by what was asked.
use Rattle.std.specs.Borrow.{Bor}
use Rattle.std.specs.Prelude.{◌≡◌, ℕ, Bool, true, false, List, Some, None, Result, Ok, Err}
use Rattle.kmip_ttlv_types.specs.Held.{Held, Rests, Says}
use Rattle.ttlv_run.specs.declared.back.BackFault.{BackFault}
use Rattle.ttlv_run.specs.declared.find.FindFault.{FindFault}
use Rattle.ttlv_run.specs.declared.from_json.ValueFault.{ValueFault}
use Rattle.ttlv_run.specs.declared.from_xml.XmlFault.{XmlFault}
use Rattle.ttlv_run.specs.declared.job.Asked.{Asked}
use Rattle.ttlv_run.specs.declared.job.Asked.TheVariants.{Print, Gather, ReadBack, FromJson, FromXml, Find}
use Rattle.ttlv_run.specs.declared.run_error.RunError.{RunError}
use Rattle.ttlv_run.specs.Backs.{back_line}
use Rattle.ttlv_run.specs.Prints.{IsWholePrint, IsMalformedPrint, EndsPrint}
use Rattle.ttlv_run.specs.Gathers.{MadeAll, MadeLess, FailsToMake, SaysFaults}
use Rattle.ttlv_run.specs.Finds.{FoundAll, LacksSome, FailsToFind, find_line}
use Rattle.ttlv_run.specs.JsonValues.{PrintedJson, FaultsJson, FailsJson, bad_line}
use Rattle.ttlv_run.specs.Reasons.{status_in, error_line}
use Rattle.ttlv_run.specs.Runs.{Streams, PrintedBack, FailsBack}
use Rattle.ttlv_run.specs.Texts.{Names}
use Rattle.ttlv_run.specs.XmlTexts.{GaveXml, FailsXml, xml_line}

-- the whole input was taken, all of it is whole, and exactly what is printed of it was appended to the output
abbrev pub IsWhole : Names → Asked → Bor (List ℕ) → Streams → Type 0
IsWhole names (Print task encoding) name s = IsWholePrint names (record { name = name; task = task; encoding = encoding }) s
IsWhole names (Gather task encoding product) name s = MadeAll names (record { name = name; task = task; encoding = encoding }) product s
IsWhole names (ReadBack prefix) name s = PrintedBack names prefix.now s None
IsWhole names (FromJson raw) name s = PrintedJson raw s
IsWhole names (FromXml raw) name s = GaveXml names raw s None
IsWhole names (Find look) name s = FoundAll names look s

-- something is malformed or not found, this line says so, and exactly what is printed in spite of it was appended: what stands in
-- front of it, or what all lines of diagnostics are read back as, each as far as it goes
abbrev pub IsMalformed : Names → Asked → Bor (List ℕ) → Streams → List ℕ → Type 0
IsMalformed names (Print task encoding) name s line = IsMalformedPrint names (record { name = name; task = task; encoding = encoding }) s line
IsMalformed names (Gather task encoding product) name s line =
    MadeLess names (record { name = name; task = task; encoding = encoding }) product s line
IsMalformed names (ReadBack prefix) name s line =
    (fault : BackFault) × PrintedBack names prefix.now s (Some fault) × (line ≡ back_line name.now fault)
IsMalformed names (FromJson raw) name s line = (fault : ValueFault) × FaultsJson raw s fault × (line ≡ bad_line name.now fault)
IsMalformed names (FromXml raw) name s line = (fault : XmlFault) × GaveXml names raw s (Some fault) × (line ≡ xml_line name.now fault)
IsMalformed names (Find look) name s line = (fault : FindFault) × LacksSome names look s fault × (line ≡ find_line name.now fault)

-- it ended early for this reason, which is true of the input or of the output, and what was printed by then was appended
abbrev pub EndsEarly : Names → Asked → Bor (List ℕ) → Streams → RunError → Type 0
EndsEarly names (Print task encoding) name s why = EndsPrint names (record { name = name; task = task; encoding = encoding }) s why
EndsEarly names (Gather task encoding product) name s why =
    FailsToMake names (record { name = name; task = task; encoding = encoding }) product s why
EndsEarly names (ReadBack prefix) name s why = FailsBack names prefix.now s why
EndsEarly names (FromJson raw) name s why = FailsJson raw s why
EndsEarly names (FromXml raw) name s why = FailsXml names raw s why
EndsEarly names (Find look) name s why = FailsToFind names look s why

-- what was said by then: of an input that is malformed, and of which something was to be made, the line that says so
abbrev pub SaysBefore : Names → Asked → Bor (List ℕ) → Streams → Held → Held → Type 0
SaysBefore names (Gather task encoding product) name s errors said =
    SaysFaults names (record { name = name; task = task; encoding = encoding }) s errors said
SaysBefore names asked name s errors said = said ≡ errors

-- how it ended: all is whole; or something is malformed, or there is a reason to end early, and its line was appended to the errors, as
-- far as they have room
abbrev pub IsEnded : Names → Asked → Bor (List ℕ) → Streams → Held → Held → Result Bool RunError → Type 0
IsEnded names asked name s errors errors_now (Ok true) = IsWhole names asked name s × Rests errors errors_now
IsEnded names asked name s errors errors_now (Ok false) =
    (line : List ℕ) × IsMalformed names asked name s line × Says errors errors_now line
IsEnded names asked name s errors errors_now (Err why) =
    EndsEarly names asked name s why
    × ((said : Held) × SaysBefore names asked name s errors said × Says said errors_now (error_line name.now why))

-- the same, where the reason to end early is not reported yet
abbrev pub Responds : Names → Asked → Bor (List ℕ) → Streams → Held → Held → Result Bool RunError → Type 0
Responds names asked name s errors errors_now (Ok whole) = IsEnded names asked name s errors errors_now (Ok whole)
Responds names asked name s errors errors_now (Err why) = EndsEarly names asked name s why × SaysBefore names asked name s errors errors_now

-- what a run has done that ended with a status: 0 where all is whole, 1 where something is malformed, or no message is there and the
-- task wants one, 2 and 3 for another reason
pub record IsDone
    (names : Names) (asked : Asked) (name : Bor (List ℕ)) (s : Streams) (errors errors_now : Held) (status : ℕ) : Type 0 where
  pub outcome : Result Bool RunError
  pub ended : IsEnded names asked name s errors errors_now outcome
  pub status_is : status ≡ status_in outcome
