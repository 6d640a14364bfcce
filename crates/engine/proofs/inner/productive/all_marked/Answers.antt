use Rattle.std.proofs.Common.{rules, tests, ◌∙◌}
use Rattle.std.proofs.lemmas.Iterator.{YieldsList-from_slice}
use Rattle.std.proofs.lemmas.Iterator.Adapters.{serves_from_places}
use Rattle.std.proofs.lemmas.Iterator.Search.{all_from_yields_List}
use Rattle.engine.specs.Productive.{symbol_marked, SymbolReady}
use Rattle.engine.proofs.Spans.{span}
use Rattle.engine.proofs.Marking.{marked_ready, marked_each}
use Rattle.engine.proofs.inner.productive.all_marked.Goals as goal

pub all-requires-clause-callable : goal.all-requires-clause-callable
all-requires-clause-callable c =
    serves_from_places (YieldsList-from_slice (span c.args.g.now.symbols.now c.args.q.from c.args.q.to) cc) (λ x q k. search (rules, tests))
    (λ x k l is. let ready : SymbolReady c.args.g.now.rules c.args.productive.now x.now = marked_ready _ _ _ _ _ _ c.requires k _ l is in search rules)

pub returns : goal.returns
returns c =
    all_from_yields_List (symbol_marked c.args.g.now.rules c.args.productive.now) _ _ _ c.all.ensures.ran (YieldsList-from_slice (span c.args.g.now.symbols.now c.args.q.from c.args.q.to) cc) (λ x r q k. search (rules, tests))
    ∙ marked_each _ _ _ _ _
