-- What a request comes to: its tables, the tags and the colours of lines, and what is done with its inputs.
use Rattle.std.specs.Borrow.{Bor}
use Rattle.std.specs.Prelude.{◌≡◌, ◌⊎◌, ℕ, Bool, true, false, ◌&&◌, List, [], ◌∷◌, ◌++◌, length, ◌==◌, codes, Option, Some, None, option_map, if◌then◌else◌}
use Rattle.clap.specs.declared.error.kind.ErrorKind.{ErrorKind}
use Rattle.clap.specs.declared.error.kind.ErrorKind.TheVariants.{DisplayHelp, DisplayVersion, OutOfMemory}
use Rattle.kmip_ttlv_names.specs.NameTables.{names_of as tags_in, bad_line, tag_named}
use Rattle.kmip_ttlv_names.specs.OwnNames.{value_names_of, bad_own_line}
use Rattle.kmip_ttlv_types.specs.Held.{Rests, Says}
use Rattle.kmip_ttlv_names.specs.declared.standard.TheConstants.{STANDARD_TAGS}
use Rattle.kmip_ttlv_names.specs.declared.enumerations.TheConstants.{STANDARD_VALUES}
use Rattle.kmip_ttlv_names.specs.declared.masks.TheConstants.{STANDARD_MASKS}
use Rattle.kmip_ttlv_names.specs.declared.secrets.TheConstants.{STANDARD_SECRETS}
use Rattle.kmip_ttlv_json.specs.Printings.{is_there}
use Rattle.ttlv_run.specs.declared.compared.Pair.{Pair}
use Rattle.ttlv_run.specs.declared.identifiers.TheConstants.{STANDARD_IDENTIFIERS}
use Rattle.ttlv_run.specs.declared.job.Asked.{Asked}
use Rattle.ttlv_run.specs.declared.job.Asked.TheVariants.{Print, Gather, Find}
use Rattle.ttlv_run.specs.declared.job.Encoding.{Encoding}
use Rattle.ttlv_run.specs.declared.job.Task.{Task}
use Rattle.ttlv_run.specs.declared.job.Product.TheVariants.{Values}
use Rattle.ttlv_run.specs.declared.job.Strict.TheVariants.{Show as ShowWhole}
use Rattle.ttlv_run.specs.declared.job.Task.TheVariants.{Show, Whole}
use Rattle.ttlv_run.specs.declared.run_error.RunError.TheVariants.{UnopenedInput, NoMemory}
use Rattle.ttlv_run.specs.declared.table.TableFault.{TableFault}
use Rattle.ttlv_run.specs.Escapes.{escape}
use Rattle.ttlv_run.specs.Ends.{IsDone}
use Rattle.ttlv_run.specs.Compares.{ComparesFiles}
use Rattle.ttlv_run.specs.Files.{At, Opening, FilesDone}
use Rattle.ttlv_run.specs.Masks.{value_named, mask_names}
use Rattle.ttlv_run.specs.Reasons.{error_line}
use Rattle.ttlv_run.specs.Runs.{streams}
use Rattle.ttlv_run.specs.Tables.{IsJoined, LacksTable, table_status, table_line}
use Rattle.ttlv_run.specs.Texts.{Names}
use Rattle.ttlv_run.specs.declared.request.Color.{Color}
use Rattle.ttlv_run.specs.declared.request.Color.TheVariants.{Always, Never, Auto}
use Rattle.ttlv_run.specs.declared.request.Request.{Request}
use Rattle.ttlv_run.specs.declared.tool.Terminal.{Terminal}
use Rattle.ttlv_run.specs.Tags.{AreTags, IsNoTag}

-- lines are coloured: always, never, or on a terminal without a value of NO_COLOR
abbrev pub is_colored : Color → Bool → Option (List ℕ) → Bool
is_colored Always is_terminal no_color = true
is_colored Never is_terminal no_color = false
is_colored Auto is_terminal None = is_terminal
is_colored Auto is_terminal (Some value) = is_terminal && (length value == 0)

-- 2 for a mistake, 3 out of memory, and 0 for help and the version, or 3 where they can't be printed
abbrev pub IsUsage : ErrorKind → ℕ → Type 0
IsUsage DisplayHelp status = (status ≡ 0) ⊎ (status ≡ 3)
IsUsage DisplayVersion status = (status ≡ 0) ⊎ (status ≡ 3)
IsUsage OutOfMemory status = status ≡ 3
IsUsage kind status = status ≡ 2

-- where memory ran out before an input was read
abbrev pub no_memory_line : List ℕ
no_memory_line = error_line (codes "ttlv") NoMemory

-- a table, and behind it that of a file, if one is named: the file was opened, and taken to its end
abbrev pub IsTable : {T I : Type 0} → Opening T I → List ℕ → T → T → Option (Bor (List ℕ)) → List ℕ → Type 0
IsTable how standard old new None all = (all ≡ standard) × (new ≡ old)
IsTable {T} {I} how standard old new (Some path) all =
    (input : I) × (left : Option (List ℕ)) × how.opens old path.now (Some input) new
    × IsJoined standard (how.left input) left all

-- there is none, and this is the status and the line that says so: memory ran out, or the file can't be opened, or has no table
pub data LacksFile
    {T I : Type 0} (how : Opening T I) (old new : T) (path : Option (Bor (List ℕ))) (status : ℕ) (line : List ℕ) : Type 0 where
  no_memory : path ≡ None → status ≡ 3 → line ≡ no_memory_line → LacksFile how old new path status line
  unopened :
      (p : Bor (List ℕ)) → path ≡ Some p → how.opens old p.now None new → status ≡ 2 → line ≡ error_line p.now UnopenedInput
      → LacksFile how old new path status line
  no_table :
      (p : Bor (List ℕ)) (input : I) (left : Option (List ℕ)) (fault : TableFault)
      → path ≡ Some p → how.opens old p.now (Some input) new → LacksTable how.can_fail (how.left input) left fault
      → status ≡ table_status fault → line ≡ table_line p.now fault
      → LacksFile how old new path status line

-- the tables of a request: the standard's tags and those that it names; the standard's secrets and those that it names,
-- tags alone
pub record AreRead
    {T I : Type 0} (how : Opening T I) (names secrets : Option (Bor (List ℕ))) (old new : T) (tags secret : List ℕ) : Type 0 where
  pub between : T
  pub tags_are : IsTable how STANDARD_TAGS.now old between names tags
  pub secrets_are : IsTable how STANDARD_SECRETS.now between new secrets secret

-- one of them is none
pub data LacksOne
    {T I : Type 0} (how : Opening T I) (names secrets : Option (Bor (List ℕ))) (old new : T) (status : ℕ) (line : List ℕ) : Type 0 where
  no_tags : LacksFile how old new names status line → LacksOne how names secrets old new status line
  no_secrets :
      (between : T) (tags : List ℕ) → IsTable how STANDARD_TAGS.now old between names tags → LacksFile how between new secrets status line
      → LacksOne how names secrets old new status line

-- the tags whose items alone are shown; where none is asked for all items are
abbrev pub only_of : Bor (List ℕ) → Option (Bor (List ℕ))
only_of tags = if length tags.now == 0 then None else Some tags

-- what is printed of messages, with the colours and the tags of readable lines
abbrev pub lines_with : Task → Bool → Bor (List ℕ) → Task
lines_with (Show look) colored tags = Show (record look { colored = colored; only = only_of tags })
lines_with (Whole (ShowWhole look)) colored tags = Whole (ShowWhole (record look { colored = colored; only = only_of tags }))
lines_with task colored tags = task

-- so is what is asked; what is printed into memory has no colours
abbrev pub with_look : Asked → Bool → Bor (List ℕ) → Asked
with_look (Print task encoding) colored tags = Print (lines_with task colored tags) encoding
with_look (Gather task encoding product) colored tags = Gather (lines_with task false tags) encoding product
with_look (Find look) colored tags = Find (record look { colored = colored; only = only_of tags })
with_look asked colored tags = asked

-- what is asked of messages, for the values of a path
abbrev pub getting : Task → Bor (List ℕ) → Encoding → Asked
getting (Show look) path encoding = Gather (Show (record look { path = Some path })) encoding Values
getting (Whole (ShowWhole look)) path encoding = Gather (Whole (ShowWhole (record look { path = Some path }))) encoding Values
getting task path encoding = Print task encoding

-- so is it if a path is named
abbrev pub with_path : Asked → Bor (List ℕ) → Asked
with_path (Print task encoding) path = if length path.now == 0 then Print task encoding else getting task path encoding
with_path asked path = asked

-- the line of a table that names nothing: of that of tags, or of that of secrets, where a line that names a value does not either
pub data HasBadLine (tags secret : List ℕ) (n : ℕ) : Type 0 where
  of_tags : bad_own_line tags ≡ Some n → HasBadLine tags secret n
  of_secrets : bad_line secret ≡ Some n → HasBadLine tags secret n

-- a word of the request, if it is there
abbrev pub word_of : Option (Bor (List ℕ)) → List ℕ
word_of None = []
word_of (Some word) = word.now

-- the line that says something of it
abbrev pub line_of : List ℕ → List ℕ → List ℕ
line_of word words = escape word ++ codes ": " ++ words ++ codes "\n"

-- why there are no tags of the words that ask for them, with the status and the line that says so
pub data LacksTag (table : List ℕ) (words : List (Bor (List ℕ))) (status : ℕ) (line : List ℕ) : Type 0 where
  no_tag :
      (word : Bor (List ℕ)) → IsNoTag table words word
      → status ≡ 2 → line ≡ line_of word.now (codes "no tag has this name")
      → LacksTag table words status line
  no_room : status ≡ 3 → line ≡ no_memory_line → LacksTag table words status line

-- why a request is refused, with the status and the line that says so
pub data IsRefused
    {T I : Type 0} (tables : Opening T I) (r : Request) (old new : T) (status : ℕ) (line : List ℕ) : Type 0 where
  lacks_table : LacksOne tables r.names r.secrets old new status line → IsRefused tables r old new status line
  lacks_tag :
      (tags secret : List ℕ) → AreRead tables r.names r.secrets old new tags secret
      → LacksTag tags r.tags.items status line
      → IsRefused tables r old new status line
  lacks_path :
      (tags secret : List ℕ) → AreRead tables r.names r.secrets old new tags secret
      → LacksTag tags r.path.items status line
      → IsRefused tables r old new status line
  bad_names :
      (tags secret : List ℕ) (path : Bor (List ℕ)) (n : ℕ) → AreRead tables r.names r.secrets old new tags secret
      → r.secrets ≡ Some path → bad_line secret ≡ Some n
      → status ≡ 2
      → line ≡ line_of path.now (codes "a table of secrets names tags alone, as `540001 Own Secret`")
      → IsRefused tables r old new status line
  memory_ended : status ≡ 3 → line ≡ no_memory_line → IsRefused tables r old new status line

-- the names of tags and of values, and the tags of secrets, by their tables
abbrev pub names_for : List ℕ → List ℕ → Names
names_for tags secret = record {
  tags = tags_in tags;
  named = λ name. tag_named name tags;
  values = λ tag value. value_named (value_names_of tags) (tags_in STANDARD_VALUES.now tag) tag value;
  masks = λ tag mask. mask_names (value_named (value_names_of tags) (tags_in STANDARD_MASKS.now tag) tag) mask;
  secrets = λ tag. is_there (tags_in secret tag);
}

-- with each input, or with standard input where none is named, what was asked is done
abbrev pub InputsDone :
    {O I : Type 0} → Opening O I → Names → Asked → List (Bor (List ℕ)) → At O → At O → Bool → Option (List ℕ)
    → Option (List ℕ) → ℕ → Type 0
InputsDone how names asked [] old new can_fail input input_left status =
    (name : Bor (List ℕ)) × (name.now ≡ codes "standard input") × IsDone names asked name
    (streams can_fail input input_left old.output new.output) old.errors new.errors status
InputsDone how names asked (f ∷ fs) old new can_fail input input_left status = FilesDone how names asked (f ∷ fs) old new status

-- a request is done: by the tables that it names, with its tags and colours, and nothing is reported before that; or two files are
-- compared, by the names of its table; or it is refused: a beginning of the line that says why is reported, and nothing is printed
pub data RequestDone
    {T J O I : Type 0} (tables : Opening T J) (files : Opening O I) (r : Request) (terminal : Terminal) (old_tables new_tables : T)
    (old new : At O) (can_fail : Bool) (input input_left : Option (List ℕ)) (status : ℕ) : Type 0 where
  done :
      (tags secret : List ℕ) (only path : Bor (List ℕ))
      → r.compares ≡ None
      → AreRead tables r.names r.secrets old_tables new_tables tags secret
      → bad_line secret ≡ None
      → AreTags tags r.tags.items only.now
      → AreTags tags r.path.items path.now
      → InputsDone files (names_for tags secret)
      (with_path (with_look r.asked (is_colored r.color terminal.is_one (option_map (λ s. s.now) terminal.no_color)) only) path)
      r.files.items old new can_fail input input_left status
      → RequestDone tables files r terminal old_tables new_tables old new can_fail input input_left status
  compared :
      (tags : List ℕ) (pair : Pair)
      → r.compares ≡ Some pair
      → IsTable tables STANDARD_TAGS.now old_tables new_tables r.names tags
      → ComparesFiles files (names_for tags STANDARD_IDENTIFIERS.now) r.asked pair old new status
      → RequestDone tables files r terminal old_tables new_tables old new can_fail input input_left status
  refused :
      (line : List ℕ)
      → IsRefused tables r old_tables new_tables status line
      → Says old.errors new.errors line
      → Rests old.output new.output
      → RequestDone tables files r terminal old_tables new_tables old new can_fail input input_left status
