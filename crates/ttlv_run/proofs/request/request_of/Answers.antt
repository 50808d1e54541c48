use Rattle.std.proofs.Common.{rules, ◌≡◌, ◌∙◌, false, sym}
use Rattle.clap.specs.Matches.{found_of}
use Rattle.ttlv_run.specs.Requests.{is_useless, tells_values, names_encoding, gets_lines, names_port, lacks_pair}
use Rattle.ttlv_run.proofs.request.request_of.Goals as goal

pub returns : goal.returns
returns c =
    let has_use : is_useless (found_of c.in-Some.found.now) ≡ false = search rules in
    let tells_none : tells_values (found_of c.in-Some.found.now) ≡ false = search rules in
    let no_encoding : names_encoding (found_of c.in-Some.found.now) ≡ false = search rules in
    let no_lines : gets_lines (found_of c.in-Some.found.now) ≡ false = search rules in
    let no_port : names_port (found_of c.in-Some.found.now) ≡ false = search rules in
    let has_pair : lacks_pair c.in-Some.command.now c.in_ok-request.request ≡ false = sym c.lacks_pair.ensures ∙ c.if-lacks_pair.false in
    (c.in-Some.command.now, found_of c.in-Some.found.now, c.in_ok-request.ensures, has_use, tells_none, no_encoding, no_lines, no_port, has_pair)
