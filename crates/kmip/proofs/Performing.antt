-- A command is performed by what it is, and in the version that is spoken.
use Rattle.std.proofs.Common.{◌≡◌, ℕ, List, Option, Result, Ok, subst, sym}
use Rattle.kmip_headers.specs.declared.header.ProtocolVersion.{ProtocolVersion}
use Rattle.kmip_messages.specs.declared.request.Request.{Request}
use Rattle.kmip_messages.specs.declared.response.Response.{Response}
use Rattle.kmip_client.specs.declared.failure.Failure.{Failure}
use Rattle.kmip_client.specs.Payloads.{Reading, Tagging}
use Rattle.kmip.specs.declared.done.Done.{Done}
use Rattle.kmip.specs.declared.request.Asked.{Asked}
use Rattle.kmip.specs.Commands.{Converses, Performs, PerformsIn}

-- by what it is
pub performs_by : {A : Type 0} (IsTagged : Tagging A) (IsOfTags : Reading A) (Exchanges : Request A → Result (Response A) (Failure A) → Type 0)
    (AsksNothing : Type 0) (version : ProtocolVersion) {asked way : Asked} (bytes : List ℕ) (r : Result (Done A) (Failure A)) → asked ≡ way
    → Performs IsTagged IsOfTags Exchanges AsksNothing version way bytes r → Performs IsTagged IsOfTags Exchanges AsksNothing version asked bytes r
performs_by IsTagged IsOfTags Exchanges AsksNothing version bytes r e h =
    subst (λ x. Performs IsTagged IsOfTags Exchanges AsksNothing version x bytes r) (sym e) h

-- in the version that was chosen
pub performs_in : {C A : Type 0} (IsTagged : Tagging A) (IsOfTags : Reading A) (Exchanges : C → C → Request A → Result (Response A) (Failure A) → Type 0)
    (middle new : C) {outcome : Result ProtocolVersion (Failure A)} {version spoken : ProtocolVersion} (asked : Asked) (bytes : List ℕ)
    (r : Result (Done A) (Failure A)) → outcome ≡ Ok version → spoken ≡ version
    → Performs IsTagged IsOfTags (Exchanges middle new) (new ≡ middle) spoken asked bytes r
    → PerformsIn IsTagged IsOfTags Exchanges middle new outcome asked bytes r
performs_in IsTagged IsOfTags Exchanges middle new asked bytes r e is h =
    subst (λ x. PerformsIn IsTagged IsOfTags Exchanges middle new x asked bytes r) (sym e)
    (subst (λ v. Performs IsTagged IsOfTags (Exchanges middle new) (new ≡ middle) v asked bytes r) is h)

-- by whether a version is wanted
pub converses_by : {C A : Type 0} (IsTagged : Tagging A) (IsOfTags : Reading A) (Exchanges : C → C → Request A → Result (Response A) (Failure A) → Type 0)
    (old new : C) {version way : Option ProtocolVersion} (asked : Asked) (bytes : List ℕ) (r : Result (Done A) (Failure A)) → version ≡ way
    → Converses IsTagged IsOfTags Exchanges old new way asked bytes r → Converses IsTagged IsOfTags Exchanges old new version asked bytes r
converses_by IsTagged IsOfTags Exchanges old new asked bytes r e h =
    subst (λ v. Converses IsTagged IsOfTags Exchanges old new v asked bytes r) (sym e) h
