mod SpellLists
