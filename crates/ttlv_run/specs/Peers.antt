-- Who sent a message to whom, and when, as it stands in a line.
use Rattle.std.specs.Prelude.{ℕ, ◌/◌, ◌%◌, Bool, ◌==◌, ◌&&◌, List, ◌++◌, codes, Option, Some, None, if◌then◌else◌}
use Rattle.std.specs.Fmt.{decimal}
use Rattle.ttlv_packets.specs.declared.flow.Address.{Address}
use Rattle.ttlv_packets.specs.declared.flow.Endpoint.{Endpoint}
use Rattle.ttlv_packets.specs.declared.flow.Flow.{Flow}
use Rattle.ttlv_packets.specs.declared.flow.Time.{Time}
use Rattle.ttlv_packets.specs.declared.message.Message.{Message}
use Rattle.ttlv_run.specs.Dates.{date_shown}
use Rattle.ttlv_run.specs.Escapes.{word_hex}

-- eight bytes of an address of IPv6
abbrev pub four_groups : ℕ → List ℕ
four_groups n =
    word_hex (n / 281474976710656) ++ (codes ":" ++ (word_hex (n / 4294967296 % 65536)
    ++ (codes ":" ++ (word_hex (n / 65536 % 65536) ++ (codes ":" ++ word_hex (n % 65536))))))

-- an address is one of IPv4
abbrev pub is_four : Address → Bool
is_four a = a.high == 0 && a.low / 4294967296 == 0xFFFF

-- its four bytes
abbrev pub octets_text : ℕ → List ℕ
octets_text n =
    decimal (n / 16777216 % 256) ++ (codes "." ++ (decimal (n / 65536 % 256)
    ++ (codes "." ++ (decimal (n / 256 % 256) ++ (codes "." ++ decimal (n % 256))))))

abbrev pub address_text : Address → List ℕ
address_text a =
    if is_four a then octets_text a.low
    else codes "[" ++ (four_groups a.high ++ (codes ":" ++ (four_groups a.low ++ codes "]")))

abbrev pub end_text : Endpoint → List ℕ
end_text e = address_text e.address ++ (codes ":" ++ decimal e.port)

-- `192.0.2.1:40000 > 192.0.2.2:5696`
abbrev pub flow_text : Flow → List ℕ
flow_text f = end_text f.source ++ (codes " > " ++ end_text f.target)

-- the date, and the microseconds behind that second
abbrev pub stamp_text : Time → List ℕ
stamp_text t = date_shown t.seconds ++ (codes " +" ++ (decimal t.micros ++ codes "us"))

abbrev pub time_text_of : Option Time → List ℕ
time_text_of None = codes " no known time"
time_text_of (Some t) = stamp_text t

-- the line in front of a message: when its last byte was captured, and who sends it to whom
unfoldable pub message_line : Message → List ℕ
message_line m = codes "At" ++ (time_text_of m.time ++ (codes " " ++ (flow_text m.flow ++ codes "\n")))
