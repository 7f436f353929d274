mod Well
