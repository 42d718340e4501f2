-- A page that texts were put into. Assumes nothing.
use Rattle.std.specs.Prelude.{◌≡◌, List, ℕ, replicate, Result, Ok, ⊤}
use Rattle.std.specs.Result.{result_and}
use Rattle.std.proofs.Common.{ap, ◌∙◌}
use Rattle.lines.specs.declared.WriteError.{WriteError}
use Rattle.lines.specs.Putting.{Text, State, put_all, Puts}
use Rattle.lines.specs.Laws.Front.{begins}
use Rattle.lines.specs.declared.output.Output.{Output}
use Rattle.report.specs.declared.page.Page.{Page}
use Rattle.report.specs.Page.{page_bytes, page_of}

-- the page that texts were put into
pub page_put : {texts : List Text} {before after : Output} {result : Result ⊤ WriteError} {bytes : List ℕ} {next : Result ℕ WriteError}
    → Puts texts before result after → before.at ≡ 0 → before.bytes.now ≡ replicate page_bytes 0
    → bytes ≡ after.bytes.now → next ≡ result_and result (Ok after.at) → ◌≡◌ {A = Page} (record { bytes = bytes; next = next }) (page_of texts)
unfolding page_of
page_put {texts} {before} put front blank holds ends =
    let page_in : State → Page = λ out. record { bytes = out.bytes; next = result_and out.wrote (Ok out.at) } in
    rw (holds, ends) (ap page_in (put.all ∙ ap (put_all texts) (begins before front blank)))
