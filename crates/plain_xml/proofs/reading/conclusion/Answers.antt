use Rattle.std.proofs.Common.{map}
use Rattle.plain_xml.specs.Elements.{element_view}
use Rattle.plain_xml.specs.Documents.{document}
use Rattle.plain_xml.proofs.ReadForms.{gives_ok, gives_fails, found_right, only_right, err_only, err_exact}
use Rattle.plain_xml.proofs.reading.conclusion.Goals as goal

pub returns-in-Ok-clause-found : goal.returns-in-Ok-clause-found
returns-in-Ok-clause-found g c =
    found_right c.args.text.now _ (gives_ok (λ v. map element_view v.items) c.args.elements c.in-Ok.elements
    (document c.args.text.now) c.requires.read c.in-Ok.is)

pub returns-in-Ok-clause-only : goal.returns-in-Ok-clause-only
returns-in-Ok-clause-only g c root h =
    only_right c.args.text.now _ root (gives_ok (λ v. map element_view v.items) c.args.elements c.in-Ok.elements
    (document c.args.text.now) c.requires.read c.in-Ok.is) h

pub returns-in-Err-clause-only : goal.returns-in-Err-clause-only
returns-in-Err-clause-only g c root h =
    err_only c.args.text.now c.in-Err.stop c.error_of.result root
    (gives_fails (λ v. map element_view v.items) c.args.elements c.in-Err.stop (document c.args.text.now) c.requires.read c.in-Err.is) c.error_of.ensures h

pub returns-in-Err-clause-exact : goal.returns-in-Err-clause-exact
returns-in-Err-clause-exact g c =
    err_exact c.args.text.now c.in-Err.stop c.error_of.result
    (gives_fails (λ v. map element_view v.items) c.args.elements c.in-Err.stop (document c.args.text.now) c.requires.read c.in-Err.is) c.error_of.ensures
