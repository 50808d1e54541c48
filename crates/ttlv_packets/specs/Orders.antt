-- The orders in which segments and messages are put together.
use Rattle.std.specs.Ordering.{ordering_then, nat_cmp}
use Rattle.std.specs.declared.cmp.Ordering.{Ordering}
use Rattle.ttlv_packets.specs.declared.flow.Address.{Address}
use Rattle.ttlv_packets.specs.declared.flow.Endpoint.{Endpoint}
use Rattle.ttlv_packets.specs.declared.flow.Flow.{Flow}
use Rattle.ttlv_packets.specs.declared.segment.Segment.{Segment}
use Rattle.ttlv_packets.specs.declared.place.Placed.{Placed}
use Rattle.ttlv_packets.specs.declared.message.Message.{Message}

-- by their numbers, the first of which that differs decides
abbrev pub address_order : Address → Address → Ordering
address_order a b = ordering_then (nat_cmp a.high b.high) (nat_cmp a.low b.low)

abbrev pub end_order : Endpoint → Endpoint → Ordering
end_order a b = ordering_then (address_order a.address b.address) (nat_cmp a.port b.port)

abbrev pub flow_order : Flow → Flow → Ordering
flow_order a b = ordering_then (end_order a.source b.source) (end_order a.target b.target)

-- flow by flow, each in the order of the capture
abbrev pub segment_order : Segment → Segment → Ordering
segment_order a b = ordering_then (flow_order a.flow b.flow) (nat_cmp a.packet b.packet)

-- stream by stream, each by the places; of several segments at one place the first captured comes first
abbrev pub placed_order : Placed → Placed → Ordering
placed_order a b =
    ordering_then (nat_cmp a.stream b.stream) (ordering_then (nat_cmp a.at b.at) (segment_order a.segment b.segment))

-- in the order of the packets
abbrev pub message_order : Message → Message → Ordering
message_order a b = ordering_then (nat_cmp a.packet b.packet) (nat_cmp a.start b.start)
