use Rattle.std.proofs.Common.{◌≡◌, true, rules}
use Rattle.std.proofs.lemmas.{Result.err_from_is_err_and, Str.IsUtf8-from_ascii}
use Rattle.kmip_ttlv_reader.specs.Outcomes.{number_outcome}
use Rattle.kmip_ttlv_reader.proofs.Steps.{failure_then}
use Rattle.kmip_ttlv_reader.specs.Reads.{is_number_type}
use Rattle.kmip_ttlv_reader.proofs.NumberLemmas.{number_four}
use Rattle.kmip_ttlv_kinds.proofs.listed.read_number.Goals as goal

pub number_text-digits-requires : goal.number_text-digits-requires
number_text-digits-requires g c =
    let number : is_number_type c.args.typ ≡ true = search rules in
    number_four c.args.typ c.in_ok-content.content.now number c.in_ok-content.ensures.there.0

pub from_utf8_unchecked-text-requires : goal.from_utf8_unchecked-text-requires
from_utf8_unchecked-text-requires g c = IsUtf8-from_ascii _ c.number_text-digits.ensures.ascii

pub returns-in_err-length_wanted-clause-read : goal.returns-in_err-length_wanted-clause-read
unfolding number_outcome
returns-in_err-length_wanted-clause-read g c =
    let p = err_from_is_err_and c.from_residual-in_err-length_wanted.result c.from_residual-in_err-length_wanted.ensures.1 in
    let typed = rw (c.is_number_type.ensures, c.pos-pos.ensures) at c.in_ok-type_wanted.ensures.step in
    let long = rw c.pos-pos.ensures at c.in_ok-length_there.ensures.step in
    let fails = rw c.pos-pos.ensures at c.in_err-length_wanted.ensures in
    rw (p.1, p.2, typed, long) (failure_then _ _ _ fails)

pub returns-in_err-content-clause-read : goal.returns-in_err-content-clause-read
unfolding number_outcome
returns-in_err-content-clause-read g c =
    let p = err_from_is_err_and c.from_residual-in_err-content.result c.from_residual-in_err-content.ensures.1 in
    let typed = rw (c.is_number_type.ensures, c.pos-pos.ensures) at c.in_ok-type_wanted.ensures.step in
    let long = rw c.pos-pos.ensures at c.in_ok-length_there.ensures.step in
    let right = rw c.pos-pos.ensures at c.in_ok-length_wanted.ensures in
    let fails = rw c.pos-pos.ensures at c.in_err-content.ensures.step in
    rw (p.1, p.2, typed, long, right) (failure_then _ _ _ fails)

pub returns-in_err-name-clause-read : goal.returns-in_err-name-clause-read
unfolding number_outcome
returns-in_err-name-clause-read g c =
    let p = err_from_is_err_and c.from_residual-in_err-name.result c.from_residual-in_err-name.ensures.1 in
    let typed = rw (c.is_number_type.ensures, c.pos-pos.ensures) at c.in_ok-type_wanted.ensures.step in
    let long = rw c.pos-pos.ensures at c.in_ok-length_there.ensures.step in
    let right = rw c.pos-pos.ensures at c.in_ok-length_wanted.ensures in
    let there = rw c.pos-pos.ensures at c.in_ok-content.ensures.step in
    let fails = rw (c.pos-pos.ensures, c.from_utf8_unchecked-text.ensures, c.number_text-digits.ensures.text) at c.in_err-name.ensures.step in
    rw (p.1, p.2, typed, long, right, there) (failure_then _ _ _ fails)

pub returns-in_err-inside-clause-read : goal.returns-in_err-inside-clause-read
unfolding number_outcome
returns-in_err-inside-clause-read g c =
    let p = err_from_is_err_and c.from_residual-in_err-inside.result c.from_residual-in_err-inside.ensures.1 in
    let typed = rw (c.is_number_type.ensures, c.pos-pos.ensures) at c.in_ok-type_wanted.ensures.step in
    let long = rw c.pos-pos.ensures at c.in_ok-length_there.ensures.step in
    let right = rw c.pos-pos.ensures at c.in_ok-length_wanted.ensures in
    let there = rw c.pos-pos.ensures at c.in_ok-content.ensures.step in
    let found = rw (c.pos-pos.ensures, c.from_utf8_unchecked-text.ensures, c.number_text-digits.ensures.text) at c.in_ok-name.ensures.step in
    let fails = rw c.pos-pos.ensures at c.in_err-inside.ensures.step in
    rw (p.1, p.2, typed, long, right, there, found) (failure_then _ _ _ fails)
