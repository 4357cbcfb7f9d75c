mod WindowSets
