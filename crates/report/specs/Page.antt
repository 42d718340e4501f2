-- A page with texts, and what of it a program writes. Assumes nothing.
use Rattle.std.specs.Prelude.{cond, List, [], ℕ, leb, length, take, replicate, Result, Ok, Err}
use Rattle.std.specs.Result.{result_and}
use Rattle.lines.specs.declared.WriteError.{WriteError}
use Rattle.lines.specs.Putting.{Text, state, put_all}
use Rattle.report.specs.declared.page.Page.{Page}

-- the page up to the next place; nothing where a text was left out
unfoldable pub page_text : Result ℕ WriteError → (page : List ℕ) → List ℕ
page_text (Ok end) page = cond (leb end (length page)) (take end page) []
page_text (Err error) page = []

-- how many bytes a page has
abbrev pub page_bytes : ℕ
page_bytes = 16384

-- a page that texts are put into from its front on, and the place behind them where none was left out
unfoldable pub page_of : List Text → Page
page_of texts =
    let out = put_all texts (state (Ok tt) 0 (replicate page_bytes 0)) in record { bytes = out.bytes; next = result_and out.wrote (Ok out.at) }
