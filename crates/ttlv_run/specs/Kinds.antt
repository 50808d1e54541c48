-- What an input looks like that has no messages.
use Rattle.std.specs.Prelude.{ℕ, Bool, ◌==◌, ◌||◌, List, [], codes, Option, Some, None, if◌then◌else◌}
use Rattle.ttlv_run.specs.declared.kind.InputKind.{InputKind}
use Rattle.ttlv_run.specs.declared.kind.InputKind.TheVariants.{PacketCapture, Gzip, Tls}

-- three bytes with which pcap begins, of either order of bytes and either resolution, or pcapng
abbrev pub is_capture : ℕ → Bool
is_capture tag = tag == 0xA1B2C3 || tag == 0xD4C3B2 || tag == 0xA1B23C || tag == 0x4D3CB2 || tag == 0x0A0D0D

-- with which a record of a TLS handshake begins
abbrev pub is_tls : ℕ → Bool
is_tls tag = tag == 0x160300 || tag == 0x160301 || tag == 0x160302 || tag == 0x160303

-- what an input looks like by its first three bytes, where a message has its tag
abbrev pub kind_of : Option ℕ → Option InputKind
kind_of None = None
kind_of (Some tag) =
    if is_capture tag then Some PacketCapture
    else if tag == 0x1F8B08 then Some Gzip
    else if is_tls tag then Some Tls
    else None

-- the words behind those that say what is wrong
abbrev pub kind_words : Option InputKind → List ℕ
kind_words None = []
kind_words (Some PacketCapture) = codes ": it looks like a packet capture"
kind_words (Some Gzip) = codes ": it looks like gzip"
kind_words (Some Tls) = codes ": it looks like TLS"
