-- What an input looks like: raw messages, or one of the texts that stand for some.
use Rattle.std.specs.Prelude.{ℕ, ◌+◌, ◌-◌, Bool, true, false, ◌==◌, ◌||◌, ◌&&◌, List, [], ◌∷◌, take, drop, slice_index, nat_lt}
use Rattle.std.specs.Prelude.{Option, Some, None, if◌then◌else◌}
use Rattle.ttlv_run.specs.declared.job.Encoding.{Encoding}
use Rattle.ttlv_run.specs.declared.job.Encoding.TheVariants.{Raw, Hexadecimal, Base64, Base64Url, Armoured, Dump, Packets, Capture}
use Rattle.ttlv_run.specs.declared.guess.TheConstants.{KMIP_PORT}
use Rattle.ttlv_run.specs.Columns.{is_between, is_hex_digit, body}

-- a byte that stands in no text
abbrev pub is_control : ℕ → Bool
is_control b = nat_lt b 9 || (nat_lt 13 b && nat_lt b 32)

abbrev pub has_control : List ℕ → Bool
has_control [] = false
has_control (b ∷ s) = is_control b || has_control s

-- a text is these four bytes
abbrev pub are_four : List ℕ → ℕ → ℕ → ℕ → ℕ → Bool
are_four s a b c d = slice_index s 0 == a && (slice_index s 1 == b && (slice_index s 2 == c && slice_index s 3 == d))

-- a packet capture begins with these, of pcap in either order of bytes and either resolution, or of pcapng
abbrev pub is_capture : List ℕ → Bool
is_capture s =
    are_four s 0xA1 0xB2 0xC3 0xD4 || are_four s 0xD4 0xC3 0xB2 0xA1 || are_four s 0xA1 0xB2 0x3C 0x4D || are_four s 0x4D 0x3C 0xB2 0xA1
    || are_four s 0x0A 0x0D 0x0D 0x0A

-- no text begins with these bytes
abbrev pub is_raw : List ℕ → Bool
is_raw s = has_control s || is_capture s

-- raw messages have a byte that stands in no text among the first four, since the root's type has the code 1
abbrev pub looks_raw : List ℕ → Bool
looks_raw s = is_raw (take 4 s)

-- the first byte that doesn't stand between digits
abbrev pub first_byte : List ℕ → Option ℕ
first_byte [] = None
first_byte (b ∷ s) = if is_between b then first_byte s else Some b

-- how many zeros a text begins with
abbrev pub zeros : List ℕ → ℕ
zeros [] = 0
zeros (b ∷ s) = if b == 48 then zeros s + 1 else 0

-- a colon, a space or a tab
abbrev pub ends_offset : ℕ → Bool
ends_offset b = b == 58 || b == 32 || b == 9

-- a dump begins with the offset zero, of six digits or more; no message does
abbrev pub starts_dump : List ℕ → Bool
starts_dump s = nat_lt 5 (zeros s) && ends_offset (slice_index s (zeros s))

-- `0x0000:`, with which tcpdump begins a packet, stands at the beginning of a text
abbrev pub starts_packet : List ℕ → Bool
starts_packet s =
    slice_index s 0 == 48 && (slice_index s 1 == 120 && (slice_index s 2 == 48 && (slice_index s 3 == 48
    && (slice_index s 4 == 48 && (slice_index s 5 == 48 && slice_index s 6 == 58)))))

-- a space or a tab
abbrev pub is_blank : ℕ → Bool
is_blank b = b == 32 || b == 9

-- the byte at a place of a text without its blanks
abbrev pub unspaced_at : ℕ → List ℕ → ℕ
unspaced_at n [] = 0
unspaced_at n (b ∷ s) = if is_blank b then unspaced_at n s else if n == 0 then b else unspaced_at (n - 1) s

-- behind it the digits of a message of KMIP stand, whose tag begins with 42, and its type is Structure: `4200 7801`
abbrev pub starts_message : List ℕ → Bool
starts_message s =
    starts_packet s && (unspaced_at 0 (drop 7 s) == 52 && (unspaced_at 1 (drop 7 s) == 50
    && (unspaced_at 6 (drop 7 s) == 48 && unspaced_at 7 (drop 7 s) == 49)))

-- that stands anywhere in a text
abbrev pub has_message : List ℕ → Bool
has_message [] = false
has_message (b ∷ s) = starts_message (b ∷ s) || has_message s

-- `0x0000:` does
abbrev pub has_packet : List ℕ → Bool
has_packet [] = false
has_packet (b ∷ s) = starts_packet (b ∷ s) || has_packet s

-- a digit of base64url that base64 doesn't have stands in a text
abbrev pub has_url_digit : List ℕ → Bool
has_url_digit [] = false
has_url_digit (b ∷ s) = (b == 45 || b == 95) || has_url_digit s

-- what a text is that is no dump: hexadecimal where it begins with a digit of it, or with a backslash; armoured where it
-- begins with a dash; or else base64
abbrev pub by_first_byte : List ℕ → ℕ → Encoding
by_first_byte s b =
    if is_hex_digit b || b == 92 then Hexadecimal
    else if b == 45 then Armoured
    else if has_url_digit s then Base64Url
    else Base64

abbrev pub by_first : List ℕ → Option ℕ → Encoding
by_first s None = Hexadecimal
by_first s (Some b) = by_first_byte s b

-- a byte that stands in a text of hexadecimal digits
abbrev pub is_in_hexadecimal : ℕ → Bool
is_in_hexadecimal b = is_hex_digit b || is_between b || b == 45 || b == 92 || b == 120 || b == 88

-- no other byte stands in a text
abbrev pub is_hexadecimal : List ℕ → Bool
is_hexadecimal [] = true
is_hexadecimal (b ∷ s) = is_in_hexadecimal b && is_hexadecimal s

-- a text of hexadecimal digits begins with one, or with a backslash
abbrev pub starts_digit : Option ℕ → Bool
starts_digit None = false
starts_digit (Some b) = is_hex_digit b || b == 92

-- how many bytes of a text are its front, which shows hexadecimal digits and dumps; and how many decide any other text
abbrev pub front_length : ℕ
front_length = 64

abbrev pub long_front : ℕ
long_front = 1024

-- what the front of a text shows: messages that tcpdump prints without headers, another dump, or hexadecimal digits; or none of these
abbrev pub front_found : List ℕ → Option Encoding
front_found s =
    if has_message s then Some Packets
    else if has_packet s then None
    else if starts_dump s then Some Dump
    else if starts_digit (first_byte s) && is_hexadecimal s then Some Hexadecimal
    else None

-- what a text looks like: what its front shows, or else what a longer one does, packets that tcpdump lists among them
abbrev pub text_found : Option Encoding → List ℕ → Encoding
text_found (Some e) s = e
text_found None s =
    if has_message s then Packets
    else if has_packet s then Capture KMIP_PORT
    else by_first s (first_byte s)

-- what the front of an input that isn't raw shows
abbrev pub front_of : List ℕ → Option Encoding
front_of s = front_found (body (take front_length s))

-- what an input that is raw looks like, by its first four bytes
abbrev pub raw_found : List ℕ → Encoding
raw_found four = if is_capture four then Capture KMIP_PORT else Raw

-- what an input looks like
abbrev pub encoding_found : List ℕ → Encoding
encoding_found s = if looks_raw s then raw_found (take 4 s) else text_found (front_of s) (body (take long_front s))
