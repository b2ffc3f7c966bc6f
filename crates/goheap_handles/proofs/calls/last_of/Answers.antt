use Rattle.std.proofs.lemmas.List.Elements.{All-pop}
use Rattle.gh_shared.specs.Handles.{IsHandleOf}
use Rattle.goheap_handles.proofs.calls.last_of.Goals as goal

pub returns-clause-rest : goal.returns-clause-rest
returns-clause-rest c = (All-pop (IsHandleOf c.args.heap.now) c.args.handles.now.items c.pop.new.self.items c.pop.result c.pop.ensures.items c.requires).0

pub returns-clause-last : goal.returns-clause-last
returns-clause-last c = (All-pop (IsHandleOf c.args.heap.now) c.args.handles.now.items c.pop.new.self.items c.pop.result c.pop.ensures.items c.requires).1
