use Rattle.std.proofs.Common.{rules, ◌≡◌, map, Some, sym, ap, ◌∙◌, subst, arith}
use Rattle.std.proofs.lemmas.List.{length-map}
use Rattle.std.specs.Option.{option_map}
use Rattle.records.specs.Bytes.{overlay}
use Rattle.records.specs.Shapes.{encoded}
use Rattle.records.specs.Layout.{answer_shape}
use Rattle.contents.specs.Content.{meant_of}
use Rattle.contents.specs.Encoding.{step_record}
use Rattle.contents.specs.Writing.{answer_size, RunFits}
use Rattle.contents.proofs.Wrote.{some_put}
use Rattle.writing.proofs.write.put_answer.Goals as goal

pub returns : goal.returns
returns g c =
    let o = option_map meant_of c.args.answer.now in
    let m = meant_of c.in-Some.answer in
    let some : o ≡ Some m = ap (option_map meant_of) c.in-Some.is in
    let size = ap answer_size some in
    let steps = c.in-Some.answer.steps.now in
    let put = c.put_run.ensures (map (step_record g.C.Cost g.C.PageCost.forms) steps) (record { many = length-map steps (step_record g.C.Cost g.C.PageCost.forms); each = λ k o h made. search rules }) in
    record {
      end = put.0 ∙ omega arith;
      run = subst RunFits (sym some) c.answer_body.ensures.run;
      page = some_put g.C.Cost g.C.PageCost.forms c.args.page.now c.args.at o m c.put-end.result some
          (c.put-end.ensures.page ∙ ap (λ a. overlay c.args.page.now c.args.at (encoded answer_shape a)) c.answer_body.ensures.body) put.1 c.put-end.ensures.end (omega arith);
    }
