-- What the options of a command ask for, by the word that the command line has for each.
use Rattle.std.specs.Prelude.{◌≡◌, ◌⊎◌, ℕ, ◌<◌, ◌^◌, Bool, true, false, not, ◌==◌, ◌||◌, ◌&&◌, List, [], ◌∷◌, map, bytes_eq, codes, is_some, is_none, Option, Some, None, unwrap_or, option_map, if◌then◌else◌}
use Rattle.std.specs.List.{slice_split}
use Rattle.std.specs.Str.Parse.{IsNumeral, digits_value, without_leading_plus}
use Rattle.clap.specs.Matches.{matched_of, raw_values, first_value, one_text}
use Rattle.clap.specs.declared.parser.matches.Found.{Found}
use Rattle.kmip_ttlv_json.specs.declared.print.Hiding.{Hiding}
use Rattle.kmip_ttlv_json.specs.declared.print.Hiding.TheVariants as hiding
use Rattle.ttlv_run.specs.declared.job.Asked.{Asked}
use Rattle.ttlv_run.specs.declared.job.Asked.TheVariants.{Print, Gather, ReadBack, FromJson, FromXml, Find}
use Rattle.ttlv_run.specs.declared.job.Encoding.{Encoding}
use Rattle.ttlv_run.specs.declared.job.Encoding.TheVariants as encoding
use Rattle.ttlv_run.specs.declared.guess.TheConstants.{KMIP_PORT}
use Rattle.ttlv_run.specs.declared.job.Look.{Look}
use Rattle.ttlv_run.specs.declared.job.Product.{Product}
use Rattle.ttlv_run.specs.declared.job.Product.TheVariants.{Document, Page}
use Rattle.ttlv_run.specs.declared.job.Task.{Task}
use Rattle.ttlv_run.specs.declared.job.Task.TheVariants.{Show, Diagnose, Hexadecimal, Json, Whole, Check}
use Rattle.ttlv_run.specs.declared.job.Strict.TheVariants.{Show as ShowWhole, Diagnose as DiagnoseWhole}
use Rattle.ttlv_run.specs.declared.job.Strict.TheVariants.{Hexadecimal as HexadecimalWhole, Json as JsonWhole}
use Rattle.ttlv_run.specs.declared.job.Values.{Values}
use Rattle.ttlv_run.specs.declared.job.Values.TheVariants as values
use Rattle.ttlv_run.specs.declared.request.Color.{Color}
use Rattle.ttlv_run.specs.declared.request.Color.TheVariants as color
use Rattle.ttlv_run.specs.declared.request.Request.{Request}

-- an option has this word
abbrev pub is_word : Option (List ℕ) → List ℕ → Bool
is_word None word = false
is_word (Some text) word = bytes_eq text word

abbrev pub is_given : Found → List ℕ → List ℕ → Bool
is_given f option word = is_word (first_value f option) word

-- a flag is given
abbrev pub is_set : Found → List ℕ → Bool
is_set f flag = is_given f flag (codes "true")

-- `--port`, without which it is that of KMIP
abbrev pub port_or : Option ℕ → Encoding
port_or None = encoding.Capture KMIP_PORT
port_or (Some port) = encoding.Capture port

-- a port without an encoding is that of a packet capture
abbrev pub by_port : Option ℕ → Encoding
by_port None = encoding.Detected
by_port (Some port) = encoding.Capture port

-- `--input`
unfoldable pub encoding_in : Found → Option ℕ → Encoding
encoding_in f port =
    if is_given f (codes "input") (codes "raw") then encoding.Raw
    else if is_given f (codes "input") (codes "hex") then encoding.Hexadecimal
    else if is_given f (codes "input") (codes "base64") then encoding.Base64
    else if is_given f (codes "input") (codes "base64url") then encoding.Base64Url
    else if is_given f (codes "input") (codes "pem") then encoding.Armoured
    else if is_given f (codes "input") (codes "xxd") then encoding.Dump
    else if is_given f (codes "input") (codes "hexdump") then encoding.Dump
    else if is_given f (codes "input") (codes "od") then encoding.Dump
    else if is_given f (codes "input") (codes "tcpdump") then port_or port
    else if is_given f (codes "input") (codes "pcap") then port_or port
    else if is_given f (codes "input") (codes "pcapng") then port_or port
    else by_port port

-- `--redact` and `--raw`, of which the first counts
unfoldable pub values_in : Found → Values
values_in f =
    if is_given f (codes "redact") (codes "all") then values.Hidden
    else if is_given f (codes "redact") (codes "keys") then values.Escaped
    else if is_set f (codes "raw") then values.Raw
    else values.Escaped

-- `--redact`, of JSON
unfoldable pub hiding_in : Found → Hiding
hiding_in f =
    if is_given f (codes "redact") (codes "all") then hiding.Values
    else if is_given f (codes "redact") (codes "keys") then hiding.Secrets
    else hiding.Nothing

-- `--color`
unfoldable pub color_in : Found → Color
color_in f =
    if is_given f (codes "color") (codes "always") then color.Always
    else if is_given f (codes "color") (codes "never") then color.Never
    else color.Auto

-- a text is a number of at most 64 bits
abbrev pub IsNumber : List ℕ → Type 0
IsNumber text = IsNumeral 10 (without_leading_plus text) × (digits_value 10 (without_leading_plus text) < 2 ^ 64)

-- `--width` or `--port`: the number that its digits are
abbrev pub IsWidth : Option (List ℕ) → Option ℕ → Type 0
IsWidth None width = width ≡ None
IsWidth (Some text) None = IsNumber text → ⊥
IsWidth (Some text) (Some width) = IsNumber text × (width ≡ digits_value 10 (without_leading_plus text))

-- `--input` and `--port`
pub record IsEncoding (f : Found) (e : Encoding) : Type 0 where
  pub port : Option ℕ
  pub is_port : IsWidth (one_text f (codes "port")) port
  pub is : e ≡ encoding_in f port

-- the readable lines that are asked for; the colours and the tags are decided later
pub record IsLook (f : Found) (look : Look) : Type 0 where
  pub values : look.values ≡ values_in f
  pub secrets : look.secrets_hidden ≡ is_given f (codes "redact") (codes "keys")
  pub offsets : look.offsets ≡ is_set f (codes "offsets")
  pub lengths : look.lengths ≡ is_set f (codes "lengths")
  pub bytes : look.bytes ≡ is_set f (codes "bytes")
  pub width : IsWidth (one_text f (codes "width")) look.width
  pub colored : look.colored ≡ false
  pub only : look.only ≡ None
  pub path : look.path ≡ None

-- any `--redact`
abbrev pub is_redacted : Found → Bool
is_redacted f = is_given f (codes "redact") (codes "all") || is_given f (codes "redact") (codes "keys")

-- what a page says of values: texts are always escaped
abbrev pub page_values : Found → Values
page_values f = if is_given f (codes "redact") (codes "all") then values.Hidden else values.Escaped

-- the readable lines that a page is made of: unless something is hidden, offsets, lengths and bytes stand in front of them
pub record IsPageLook (f : Found) (look : Look) : Type 0 where
  pub values : look.values ≡ page_values f
  pub secrets : look.secrets_hidden ≡ is_given f (codes "redact") (codes "keys")
  pub offsets : look.offsets ≡ not (is_redacted f)
  pub lengths : look.lengths ≡ not (is_redacted f)
  pub bytes : look.bytes ≡ not (is_redacted f)
  pub width : IsWidth (one_text f (codes "width")) look.width
  pub colored : look.colored ≡ false
  pub only : look.only ≡ None
  pub path : look.path ≡ None

-- `--prefix`
abbrev pub prefix_in : Found → List ℕ
prefix_in f = unwrap_or (first_value f (codes "prefix")) []

-- empty structures are closed: but for `--unclosed`
abbrev pub is_closed : Found → Bool
is_closed f = is_set f (codes "closed") || not (is_set f (codes "unclosed"))

-- `--strict`, which each `--redact` means
abbrev pub is_strict : Found → Bool
is_strict f = is_set f (codes "strict") || is_redacted f

-- a command is one of the others than `check`
abbrev pub is_other : List ℕ → Bool
is_other command =
    bytes_eq command (codes "show") || bytes_eq command (codes "diag") || bytes_eq command (codes "hex")
    || bytes_eq command (codes "json") || bytes_eq command (codes "undiag") || bytes_eq command (codes "from-json")
    || bytes_eq command (codes "from-xml") || bytes_eq command (codes "xml") || bytes_eq command (codes "html")
    || bytes_eq command (codes "diff")

-- each message in hexadecimal; whole ones alone, if that is asked for
abbrev pub IsHexadecimal : Found → Task → Type 0
IsHexadecimal f Hexadecimal = is_strict f ≡ false
IsHexadecimal f (Whole HexadecimalWhole) = is_strict f ≡ true
IsHexadecimal f task = ⊥

-- the task of a command
abbrev pub IsTask : List ℕ → Found → Task → Type 0
IsTask command f (Show look) = (command ≡ codes "show") × (is_strict f ≡ false) × IsLook f look
IsTask command f (Diagnose closed prefix) =
    (command ≡ codes "diag") × (is_strict f ≡ false) × (closed ≡ is_closed f) × (prefix.now ≡ prefix_in f)
IsTask command f Hexadecimal = ((command ≡ codes "hex") × IsHexadecimal f Hexadecimal) ⊎ (command ≡ codes "diff")
IsTask command f (Json hiding named) =
    (command ≡ codes "json") × (is_strict f ≡ false) × (hiding ≡ hiding_in f) × (named ≡ is_set f (codes "named"))
IsTask command f (Whole (ShowWhole look)) = (command ≡ codes "show") × (is_strict f ≡ true) × IsLook f look
IsTask command f (Whole (DiagnoseWhole closed prefix)) =
    (command ≡ codes "diag") × (is_strict f ≡ true) × (closed ≡ is_closed f) × (prefix.now ≡ prefix_in f)
IsTask command f (Whole HexadecimalWhole) = (command ≡ codes "hex") × IsHexadecimal f (Whole HexadecimalWhole)
IsTask command f (Whole (JsonWhole hiding named)) =
    (command ≡ codes "json") × (is_strict f ≡ true) × (hiding ≡ hiding_in f) × (named ≡ is_set f (codes "named"))
IsTask command f (Check kmip empty) =
    (is_other command ≡ false) × (kmip ≡ (bytes_eq command (codes "check") && is_set f (codes "kmip")))
    × (empty ≡ (bytes_eq command (codes "check") && is_set f (codes "allow-empty")))

-- the lines of a page; those of whole messages alone, if that is asked for
abbrev pub IsPageTask : Found → Task → Type 0
IsPageTask f (Show look) = (is_strict f ≡ false) × IsPageLook f look
IsPageTask f (Whole (ShowWhole look)) = (is_strict f ≡ true) × IsPageLook f look
IsPageTask f task = ⊥

-- messages are looked for within anything else
abbrev pub finds : List ℕ → Found → Bool
finds command f = bytes_eq command (codes "show") && is_set f (codes "find")

-- what is made of what a command prints
abbrev pub IsGathered : List ℕ → Found → Task → Product → Type 0
IsGathered command f task Document = (command ≡ codes "xml") × IsHexadecimal f task
IsGathered command f task Page = (command ≡ codes "html") × IsPageTask f task
IsGathered command f task product = ⊥

-- what a command asks for
abbrev pub IsAsked : List ℕ → Found → Asked → Type 0
IsAsked command f (Print task encoding) = IsTask command f task × IsEncoding f encoding × (finds command f ≡ false)
IsAsked command f (ReadBack prefix) = (command ≡ codes "undiag") × (prefix.now ≡ prefix_in f)
IsAsked command f (FromJson raw) = (command ≡ codes "from-json") × (raw ≡ is_set f (codes "raw"))
IsAsked command f (Find look) = (finds command f ≡ true) × IsLook f look
IsAsked command f (FromXml raw) = (command ≡ codes "from-xml") × (raw ≡ is_set f (codes "raw"))
IsAsked command f (Gather task encoding product) = IsGathered command f task product × IsEncoding f encoding

-- the words of an option that may be given several times
abbrev pub texts_in : Found → List ℕ → List (List ℕ)
texts_in f option = unwrap_or (option_map raw_values (matched_of f option)) []

-- the names between the slashes of a path
abbrev pub path_words : List ℕ → List (List ℕ)
path_words path = slice_split (λ b. b == 47) path

-- `--get`
abbrev pub path_in : Found → List (List ℕ)
path_in f = unwrap_or (option_map path_words (first_value f (codes "get"))) []

-- the two files of a command that compares
abbrev pub two_of : List (List ℕ) → Option (List ℕ × List ℕ)
two_of (first ∷ second ∷ []) = Some (first, second)
two_of files = None

abbrev pub pair_of : List ℕ → List (List ℕ) → Option (List ℕ × List ℕ)
pair_of command files = if bytes_eq command (codes "diff") then two_of files else None

-- a request is what a command asks for
pub record IsRequest (command : List ℕ) (f : Found) (r : Request) : Type 0 where
  pub asked : IsAsked command f r.asked
  pub names : option_map (λ s. s.now) r.names ≡ first_value f (codes "names")
  pub secrets : option_map (λ s. s.now) r.secrets ≡ first_value f (codes "secrets")
  pub tags : map (λ s. s.now) r.tags.items ≡ texts_in f (codes "tag")
  pub path : map (λ s. s.now) r.path.items ≡ path_in f
  pub color : r.color ≡ color_in f
  pub files : map (λ s. s.now) r.files.items ≡ texts_in f (codes "files")
  pub compares : option_map (λ p. (p.first.now, p.second.now)) r.compares ≡ pair_of command (texts_in f (codes "files"))

-- two files are to be compared, and others are named
abbrev pub lacks_pair : List ℕ → Request → Bool
lacks_pair command r = bytes_eq command (codes "diff") && is_none r.compares

-- a table of secrets is named where they are not hidden
abbrev pub is_useless : Found → Bool
is_useless f = is_some (matched_of f (codes "secrets")) && not (is_given f (codes "redact") (codes "keys"))

-- lengths or bytes are asked for where values are hidden
abbrev pub tells_values : Found → Bool
tells_values f =
    (is_set f (codes "lengths") || is_set f (codes "bytes"))
    && is_redacted f

-- values alone are asked for, and what stands in lines of items or in front of them
abbrev pub gets_lines : Found → Bool
gets_lines f =
    is_some (matched_of f (codes "get"))
    && (is_set f (codes "find") || is_some (matched_of f (codes "tag")) || is_set f (codes "offsets") || is_set f (codes "lengths")
    || is_set f (codes "bytes"))

-- the encoding that is named is that of a packet capture
abbrev pub names_capture : Found → Bool
names_capture f =
    is_given f (codes "input") (codes "tcpdump") || is_given f (codes "input") (codes "pcap")
    || is_given f (codes "input") (codes "pcapng")

-- a port is named, and an encoding that has none
abbrev pub names_port : Found → Bool
names_port f = is_some (matched_of f (codes "port")) && is_some (matched_of f (codes "input")) && not (names_capture f)

-- messages are looked for in any notation, and an encoding or a port is named
abbrev pub names_encoding : Found → Bool
names_encoding f = is_set f (codes "find") && (is_some (matched_of f (codes "input")) || is_some (matched_of f (codes "port")))
