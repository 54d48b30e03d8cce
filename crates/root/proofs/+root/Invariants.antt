use Rattle.root.proofs.+root.Given as goal

-- proposed from what the function passes where it calls itself
abbrev pub decreases-root : goal.decreases-root
decreases-root l = l.n
