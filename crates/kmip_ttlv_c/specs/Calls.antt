-- What the calls that make a text return, and why they fail.
use Rattle.std.specs.Prelude.{◌≡◌, ℕ, Bool, true, ◌+◌, ◌/◌, ◌≤◌, List, [], length, Option, Some, None}
use Rattle.std.specs.Str.{IsUtf8, trim_end}
use Rattle.kmip_ttlv_types.specs.Trees.{Tree, IsTreeText, IsStructure}
use Rattle.kmip_ttlv_util.specs.Outlines.{outline_of, diag}
use Rattle.kmip_ttlv_util.specs.Lines.{tag_part}
use Rattle.kmip_ttlv_util.specs.Traces.{trace}
use Rattle.kmip_ttlv_util.specs.Diagnostics.{hostile}
use Rattle.kmip_ttlv_util.specs.PrintResults.{IsExact}
use Rattle.kmip_ttlv_util.specs.CheckedDiagnostics.{ShowsMessage}
use Rattle.kmip_ttlv_items.specs.declared.found.Fault.{Fault}
use Rattle.kmip_ttlv_items.specs.ItemWalks.{Judges}
use Rattle.kmip_ttlv_util.specs.Pretty.{IsPrinted, IsPretty}
use Rattle.kmip_ttlv_util.specs.Undiag.{undiag}
use Rattle.kmip_ttlv_util.specs.ReadBack.{ReadsLongest, IsReadBack, lines}
use Rattle.kmip_ttlv_names.specs.NameTables.{names_of, bad_line}
use Rattle.kmip_ttlv_names.specs.declared.standard.TheConstants.{STANDARD_TAGS}
use Rattle.kmip_ttlv_c.specs.declared.status.TheConstants.{OUT_OF_MEMORY, NOT_UTF8, MALFORMED, BAD_NAMES}
use Rattle.kmip_ttlv_c.specs.declared.items.KmipTtlvFault.{KmipTtlvFault}
use Rattle.kmip_ttlv_c.specs.LentItems.{c_fault}

-- the text is the diagnostic of bytes, and `count` is how many items were tried
pub record IsDiagnostic (prefix : List ℕ) (closed : Bool) (bytes : List ℕ) (count : ℕ) (text : List ℕ) : Type 0 where
  pub utf8 : IsUtf8 prefix
  pub is : text ≡ hostile prefix closed (length bytes) (trace closed bytes)
  pub exact : IsExact prefix closed bytes text
  pub counted : count ≡ length (trace closed bytes)
  pub bounded : count ≤ length bytes / 8 + 1

-- the text is the diagnostic of one whole message, with empty structures closed, and there is no fault
pub record IsCheckedDiagnostic (prefix bytes : List ℕ) (fault : KmipTtlvFault) (text : List ℕ) : Type 0 where
  pub utf8 : IsUtf8 prefix
  pub shows : ShowsMessage prefix true bytes text
  pub no_fault : fault ≡ c_fault None

-- a table of names that can be parsed
pub record IsTable (table : List ℕ) : Type 0 where
  pub utf8 : IsUtf8 table
  pub good : bad_line table ≡ None

-- the text is the readable text of bytes
pub record IsReadable (names : ℕ → Option (List ℕ)) (closed : Bool) (bytes text : List ℕ) : Type 0 where
  pub printed : IsPrinted names closed bytes text
  pub pretty : IsPretty names closed bytes text

-- the same with the names of a table, of which no line is bad
pub record IsNamedText (table : List ℕ) (closed : Bool) (bytes : List ℕ) (line : ℕ) (text : List ℕ) : Type 0 where
  pub table_is : IsTable table
  pub no_line : line ≡ 0
  pub readable : IsReadable (names_of table) closed bytes text

-- the text is what a diagnostic under a prefix is read back as
pub record IsReadBackAs (names : ℕ → Option (List ℕ)) (prefix diagnostic text : List ℕ) : Type 0 where
  pub is : text ≡ undiag names prefix diagnostic
  pub longest : ReadsLongest names prefix diagnostic text
  pub redacted : IsReadBack names prefix diagnostic text

-- the same with the names of a table, of which no line is bad
pub record IsReadLines (table prefix diagnostic : List ℕ) (line : ℕ) (text : List ℕ) : Type 0 where
  pub table_is : IsTable table
  pub no_line : line ≡ 0
  pub prefix_is : IsUtf8 prefix
  pub diagnostic_is : IsUtf8 diagnostic
  pub lines : IsReadBackAs (names_of table) prefix diagnostic text

-- bytes are one whole well-formed message, and these are its lines with the standard's names and without any value but those of Enumerations:
-- what the diagnostic of its outline is read back as
pub record ShowsRedacted (bytes text : List ℕ) : Type 0 where
  pub message : Tree
  pub whole : IsTreeText message bytes
  pub root : IsStructure message
  pub read : IsReadBackAs (names_of STANDARD_TAGS.now) [] (diag [] (outline_of message)) text
  pub lines : text ≡ trim_end (lines (tag_part (names_of STANDARD_TAGS.now)) 0 (outline_of message))

-- the text is those lines, and there is no fault
pub record IsRedactedText (bytes : List ℕ) (fault : KmipTtlvFault) (text : List ℕ) : Type 0 where
  pub shows : ShowsRedacted bytes text
  pub no_fault : fault ≡ c_fault None

-- the text is the version
abbrev pub IsVersion : List ℕ → List ℕ → Type 0
IsVersion version text = text ≡ version

-- a diagnostic fails when out of memory, or if its prefix is not UTF-8
pub data PrefixFails (prefix : List ℕ) (count status : ℕ) : Type 0 where
  no_memory : IsUtf8 prefix → status ≡ OUT_OF_MEMORY → count ≡ 0 → PrefixFails prefix count status
  no_prefix : status ≡ NOT_UTF8 → (IsUtf8 prefix → ⊥) → count ≡ 0 → PrefixFails prefix count status

-- a checked diagnostic fails if the bytes are not one whole message, and then the first fault is set; or as a diagnostic does
pub data CheckedFails (prefix bytes : List ℕ) (fault : KmipTtlvFault) (status : ℕ) : Type 0 where
  not_whole :
      (found : Fault)
      → IsUtf8 prefix
      → Judges bytes (Some found)
      → status ≡ MALFORMED
      → fault ≡ c_fault (Some found)
      → CheckedFails prefix bytes fault status
  no_memory : IsUtf8 prefix → status ≡ OUT_OF_MEMORY → fault ≡ c_fault None → CheckedFails prefix bytes fault status
  no_prefix : status ≡ NOT_UTF8 → (IsUtf8 prefix → ⊥) → fault ≡ c_fault None → CheckedFails prefix bytes fault status

-- a redacted text fails if the bytes are not one whole message, and then the first fault is set; or when out of memory
pub data RedactingFails (bytes : List ℕ) (fault : KmipTtlvFault) (status : ℕ) : Type 0 where
  no_message :
      (found : Fault)
      → Judges bytes (Some found)
      → status ≡ MALFORMED
      → fault ≡ c_fault (Some found)
      → RedactingFails bytes fault status
  no_memory : status ≡ OUT_OF_MEMORY → fault ≡ c_fault None → RedactingFails bytes fault status

-- a table of names fails when out of memory, if it is not UTF-8, or at its first bad line
pub data NamesFail (table : List ℕ) (line status : ℕ) : Type 0 where
  no_memory : IsUtf8 table → status ≡ OUT_OF_MEMORY → line ≡ 0 → NamesFail table line status
  no_table : status ≡ NOT_UTF8 → (IsUtf8 table → ⊥) → line ≡ 0 → NamesFail table line status
  bad_table : status ≡ BAD_NAMES → bad_line table ≡ Some line → NamesFail table line status

-- a readable text with the built-in names fails only when out of memory
abbrev pub StandardFails : ℕ → Type 0
StandardFails status = status ≡ OUT_OF_MEMORY

-- reading a diagnostic back fails because of its table of names, or if a text is not UTF-8
pub data ReadingFails (diagnostic prefix table : List ℕ) (line status : ℕ) : Type 0 where
  names_fail :
      IsUtf8 diagnostic
      → IsUtf8 prefix
      → NamesFail table line status
      → ReadingFails diagnostic prefix table line status
  no_diagnostic :
      status ≡ NOT_UTF8
      → (IsUtf8 diagnostic → ⊥)
      → line ≡ 0
      → ReadingFails diagnostic prefix table line status
  no_prefix_text :
      status ≡ NOT_UTF8
      → (IsUtf8 prefix → ⊥)
      → line ≡ 0
      → ReadingFails diagnostic prefix table line status

-- the call never fails
abbrev pub NeverFails : ℕ → Type 0
NeverFails status = ⊥
