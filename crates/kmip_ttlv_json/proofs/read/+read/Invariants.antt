use Rattle.std.proofs.Common.{◌≡◌, ◌+◌, ◌*◌, length}
use Rattle.kmip_ttlv_json.specs.{Events.unplaced, Spots.all_of}
use Rattle.kmip_ttlv_json.proofs.{Events.ItemsSoFar, Events.MembersSoFar, Spotting.ItemsOn, Spotting.MembersOn}
use Rattle.kmip_ttlv_json.proofs.read.+read.Given as goal

abbrev pub decreases-read_value : goal.decreases-read_value
decreases-read_value g l = 3 * l.depth

abbrev pub decreases-read_items : goal.decreases-read_items
decreases-read_items g l = 3 * l.depth + 1

abbrev pub decreases-read_member : goal.decreases-read_member
decreases-read_member g l = 3 * l.depth + 1

abbrev pub decreases-read_members : goal.decreases-read_members
decreases-read_members g l = 3 * l.depth + 2

abbrev pub invariant-read_items-items : goal.invariant-read_items-items
invariant-read_items-items g l = record {
  so : ItemsSoFar l.depth l.initial.reader.reader l.reader.reader (unplaced l.all) l.fn.out.items l.out.items;
  counted : all_of l.reader ≡ all_of l.initial.reader;
  on : ItemsOn (all_of l.initial.reader) l.depth l.initial.reader.reader l.reader.reader l.all;
}

abbrev pub decreases-read_items-items : goal.decreases-read_items-items
decreases-read_items-items g l = length l.reader.reader

abbrev pub invariant-read_members-members : goal.invariant-read_members-members
invariant-read_members-members g l = record {
  so : MembersSoFar l.depth l.initial.reader.reader l.reader.reader l.met l.initial.out.items l.out.items;
  counted : all_of l.reader ≡ all_of l.initial.reader;
  on : MembersOn (all_of l.initial.reader) l.depth l.initial.reader.reader l.reader.reader l.met.value;
}

abbrev pub decreases-read_members-members : goal.decreases-read_members-members
decreases-read_members-members g l = length l.reader.reader
